use Rattle.std.proofs.Common.{rules, inl, inr, Ok, Err, ap, sym, subst}
use Rattle.vc_files.specs.FileMap.{FileMap}
use Rattle.vc_files.proofs.WearLemmas.{wears_writes, wears_then, writes_told}
use Rattle.vc_refs.specs.RefFault.{BlamesSet, MayWriteRef, TellsDevice}
use Rattle.vc_refs.specs.Refs.{refs}
use Rattle.vc_refs.specs.RefMap.{IsRefMap}
use Rattle.vc_refs.proofs.LayeredChangeLemmas.{only_same, rest_same, set_blames_packed}
use Rattle.vc_refs.proofs.LookLemmas.{wears_both}
use Rattle.vc_refs.proofs.layered.setting.set.Goals as goal

pub returns-in_err-packed-clause-refused : goal.returns-in_err-packed-clause-refused
returns-in_err-packed-clause-refused g c = λ honest.
    let content = g.F.Files.content c.args.files.now in
    let told : BlamesSet content c.args.name.now c.args.expected c.in_err-packed.field-0.0 = set_blames_packed content c.args.name.now c.args.expected c.in_err-packed.field-0.0 (c.in_err-packed.ensures.refused honest) in
    search (rules, told)

pub returns-in_err-packed-clause-sets : goal.returns-in_err-packed-clause-sets
returns-in_err-packed-clause-sets g c =
    let same = c.in_err-packed.ensures.same in
    record {
      set = search rules;
      kept = λ honest map. subst IsRefMap (ap refs (sym same)) map;
      rest = λ honest. rest_same _ _ _ same;
      only = λ honest. only_same _ _ _ same;
      err = λ honest. search (rules, same);
    }

pub returns-in_err-packed-clause-wear : goal.returns-in_err-packed-clause-wear
returns-in_err-packed-clause-wear g c = writes_told (wears_writes c.in_err-packed.ensures.wear (search rules)) (search rules) (search rules)

pub set_over-requires-clause-read : goal.set_over-requires-clause-read
set_over-requires-clause-read g c = λ honest. rw c.in_ok-packed.ensures.same (c.in_ok-packed.ensures.found honest)

pub returns-in_err-set_over-clause-wear : goal.returns-in_err-set_over-clause-wear
returns-in_err-set_over-clause-wear g c = wears_then c.in_ok-packed.ensures.wear (search rules) (search rules) (writes_told c.in_err-set_over.ensures.wear (search rules) (search rules))

pub returns-in_err-set_over-clause-looks : goal.returns-in_err-set_over-clause-looks
returns-in_err-set_over-clause-looks g c = λ honest.
    let from : TellsDevice c.from_residual-in_err-set_over.result → TellsDevice {T = Unit {0}} (Err c.in_err-set_over.field-0.0) = search rules in
    elim (c.in_err-set_over.ensures.looks honest) [
      | inl may ↦ inl (subst (λ (f : FileMap). MayWriteRef f c.args.name.now c.args.expected) c.in_ok-packed.ensures.same may)
      | inr wears ↦ inr (wears_both c.in_ok-packed.ensures.wear wears from)
    ]

pub returns-clause-wear : goal.returns-clause-wear
returns-clause-wear g c = wears_then c.in_ok-packed.ensures.wear (search rules) (search rules) (writes_told c.set_over.ensures.wear (search rules) (search rules))

pub returns-clause-looks : goal.returns-clause-looks
returns-clause-looks g c = λ honest.
    let never : TellsDevice {T = Unit {0}} (Ok tt) → ⊥ = search rules in
    elim (c.in_ok-set_over.ensures.looks honest) [
      | inl may ↦ inl (subst (λ (f : FileMap). MayWriteRef f c.args.name.now c.args.expected) c.in_ok-packed.ensures.same may)
      | inr wears ↦ inr (wears_both c.in_ok-packed.ensures.wear wears (λ told. absurd (never told)))
    ]
