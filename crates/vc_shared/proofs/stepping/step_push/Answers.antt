use Rattle.std.proofs.Common.{◌∙◌, ⊎_elim, ap, inl, inr, rules, Some, refl, subst, sym, true≢false}
use Rattle.vc_files.proofs.WearLemmas.{wears_then, wears_writes, writes_told}
use Rattle.vc_files.specs.FileMap.{FileMap}
use Rattle.vc_files.specs.declared.faults.Fault.TheVariants.{Memory}
use Rattle.vc_history.proofs.StoredLemmas.{keeps_same, numbers_kept}
use Rattle.vc_lemmas.proofs.Lists.{on_err}
use Rattle.vc_local.proofs.LookLemmas.{looks_then}
use Rattle.vc_refs.specs.Refs.{packed_map}
use Rattle.vc_session.specs.declared.fault.SessionFault.TheVariants as session
use Rattle.vc_shared.specs.Faults.{of_device}
use Rattle.vc_shared.specs.Stepping.{EndsSlotEarly, IsRefusedIn, MayWriteIn}
use Rattle.vc_local.proofs.FaultLemmas.{err_as}
use Rattle.vc_shared.proofs.FaultLemmas.{looks_as, memory_refused, writes_as}
use Rattle.vc_shared.proofs.SlotLemmas.{end_early, none_done}
use Rattle.vc_shared.proofs.TellingLemmas.{short_report}
use Rattle.vc_shared.proofs.stepping.step_push.Goals as goal

pub told-requires : goal.told-requires
told-requires g c = record { short = short_report c.args.push.now c.in_ok-did.did c.in_ok-did.ensures.takes.told c.requires.tellable }

pub returns-in_err-did-clause-wear : goal.returns-in_err-did-clause-wear
returns-in_err-did-clause-wear g c =
    wears_then c.in_default.ensures.wear (λ honest. c.in_default.ensures.same) (λ never. absurd (cc never))
    (writes_as c.step.result c.in_err-did.field-0.0 c.in_err-did.was c.from_residual.result c.from_residual.ensures.1 c.step.ensures.wear)

pub returns-in_err-did-clause-looks : goal.returns-in_err-did-clause-looks
returns-in_err-did-clause-looks g c honest held =
    ⊎_elim (λ may. inl (subst (λ (f : FileMap). MayWriteIn f (Some c.args.push.now)) c.in_default.ensures.same may)) (λ looks. inr (looks_then c.in_default.ensures.wear looks))
    (looks_as c.step.result c.in_err-did.field-0.0 c.in_err-did.was c.from_residual.result c.from_residual.ensures.1 (c.step.ensures.looks honest))

pub returns-in_err-did-clause-early : goal.returns-in_err-did-clause-early
returns-in_err-did-clause-early g c honest held =
    on_err c.from_residual.result _
    (subst (λ (f : FileMap). EndsSlotEarly f (g.F.Files.content c.step.new.files) (Some c.args.push.now)) c.in_default.ensures.same (c.in_err-did.ensures.early honest))

pub returns-in_err-told-clause-wear : goal.returns-in_err-told-clause-wear
returns-in_err-told-clause-wear g c = wears_then c.in_default.ensures.wear (λ honest. c.in_default.ensures.same) (λ never. absurd (cc never)) (search rules)

pub returns-clause-wear : goal.returns-clause-wear
returns-clause-wear g c = wears_then c.in_default.ensures.wear (λ honest. c.in_default.ensures.same) (λ never. absurd (cc never)) (search rules)

pub returns-in-Err-clause-wear : goal.returns-in-Err-clause-wear
returns-in-Err-clause-wear g c = rw c.from.ensures (writes_told (wears_writes c.in-Err.ensures.wear (λ honest. c.in-Err.ensures.same)) (search rules) (search rules))

pub returns-in-Err-clause-early : goal.returns-in-Err-clause-early
returns-in-Err-clause-early g c honest held =
    let content = g.F.Files.content c.args.files.now in
    subst (λ (f : FileMap). EndsSlotEarly content f (Some c.args.push.now)) (sym c.in-Err.ensures.same) (none_done content c.args.push.now c.args.push.now.stage)

pub returns-in_err-told-clause-early : goal.returns-in_err-told-clause-early
returns-in_err-told-clause-early g c honest held =
    let old = g.F.Files.content c.args.files.now in
    let new = g.F.Files.content c.step.new.files in
    let steps = rw c.in_default.ensures.same at c.in_ok-did.ensures.steps in
    on_err c.from_residual-in_err-told.result _ (end_early old new c.args.push.now c.step.new.self c.in_ok-did.did c.in_err-told.ensures.fault (steps honest (c.in_default.ensures.agrees honest (c.requires.agrees honest)) held))

pub returns-in_err-told-clause-refused : goal.returns-in_err-told-clause-refused
returns-in_err-told-clause-refused g c honest =
    let old = g.F.Files.content c.args.files.now in
    err_as (λ e. IsRefusedIn old (Some c.args.push.now) e) (of_device Memory) c.from_residual-in_err-told.result c.from_residual-in_err-told.ensures.1
    (session.Fault Memory, refl, memory_refused old c.args.push.now c.args.push.now.stage)

pub returns-clause-steps : goal.returns-clause-steps
returns-clause-steps g c honest held =
    let steps = rw c.in_default.ensures.same at c.in_ok-did.ensures.steps in
    record { did = c.in_ok-did.did; is_session = c.step.ensures.takes.session; steps = steps honest (c.in_default.ensures.agrees honest (c.requires.agrees honest)) held; tells = c.in_ok-told.ensures.told }

pub returns-in_err-did-clause-refused : goal.returns-in_err-did-clause-refused
returns-in_err-did-clause-refused g c honest =
    let refused = rw c.in_default.ensures.same at c.in_err-did.ensures.refused in
    let told = refused honest (c.in_default.ensures.agrees honest (c.requires.agrees honest)) in
    search (rules, told)

pub returns-in_err-did-clause-good : goal.returns-in_err-did-clause-good
returns-in_err-did-clause-good g c honest = record {
  agrees = numbers_kept _ _ ((rw c.in_default.ensures.same at c.step.ensures.spares.objects) honest) c.learn.new.generations (c.in_default.ensures.agrees honest (c.requires.agrees honest));
  objects = (rw c.in_default.ensures.same at c.step.ensures.spares.objects) honest;
  bad = search rules;
  packed = (rw c.in_default.ensures.same at c.step.ensures.spares.packed) honest;
  learns = λ up. c.in_default.ensures.learnt honest (c.requires.agrees honest);
}

pub returns-in_err-told-clause-good : goal.returns-in_err-told-clause-good
returns-in_err-told-clause-good g c honest = record {
  agrees = numbers_kept _ _ ((rw c.in_default.ensures.same at c.step.ensures.spares.objects) honest) c.learn.new.generations (c.in_default.ensures.agrees honest (c.requires.agrees honest));
  objects = (rw c.in_default.ensures.same at c.step.ensures.spares.objects) honest;
  bad = search rules;
  packed = (rw c.in_default.ensures.same at c.step.ensures.spares.packed) honest;
  learns = λ up. c.in_default.ensures.learnt honest (c.requires.agrees honest);
}

pub returns-clause-good : goal.returns-clause-good
returns-clause-good g c honest = record {
  agrees = numbers_kept _ _ ((rw c.in_default.ensures.same at c.step.ensures.spares.objects) honest) c.learn.new.generations (c.in_default.ensures.agrees honest (c.requires.agrees honest));
  objects = (rw c.in_default.ensures.same at c.step.ensures.spares.objects) honest;
  bad = search rules;
  packed = (rw c.in_default.ensures.same at c.step.ensures.spares.packed) honest;
  learns = λ up. c.in_default.ensures.learnt honest (c.requires.agrees honest);
}

pub returns-in-Err-clause-good : goal.returns-in-Err-clause-good
returns-in-Err-clause-good g c honest = record {
  agrees = search rules;
  objects = keeps_same _ _ c.in-Err.ensures.same;
  bad = search rules;
  packed = inl (ap packed_map c.in-Err.ensures.same);
  learns = λ up. absurd (true≢false (sym up ∙ rw c.from.ensures refl));
}
