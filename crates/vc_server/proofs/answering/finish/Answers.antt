use Rattle.std.proofs.Common.{None, inr, refl, sym, ◌∙◌, arith, rules}
use Rattle.vc_files.proofs.WearLemmas.{writes_both, writes_none}
use Rattle.vc_local.proofs.CleanLemmas.{stays_same, stays_then}
use Rattle.vc_server.proofs.ServingLemmas.{err_is, never_so_long, none_stepped, one_stepped, refused_to_end, stays_up, told_to_end, while_up}
use Rattle.vc_shared.specs.Slots.{slot_of}
use Rattle.vc_server.proofs.answering.finish.Goals as goal

pub steps-init : goal.steps-init
steps-init g c = (c.requires.up, writes_none (λ never. never), (λ honest. stays_same _ _ refl), λ honest. none_stepped _ _ _ c.requires.tellable)

pub returns-in_err-stepped-clause-steps : goal.returns-in_err-stepped-clause-steps
returns-in_err-stepped-clause-steps g c = λ honest.
    let so = c.steps.invariant in
    rw (err_is _ _ c.from_residual.ensures.1)
    (refused_to_end _ _ _ _ _ _ _ _ (so.3 honest) c.in_err-stepped.field-0.0 _ (while_up _ _ _ _ _ _ _ _ so.0 (c.in_err-stepped.ensures.answers honest)))

pub returns-in_err-stepped-clause-up : goal.returns-in_err-stepped-clause-up
returns-in_err-stepped-clause-up g c = rw (err_is _ _ c.from_residual.ensures.1) (c.in_err-stepped.ensures.settles.up c.steps.invariant.0)

pub returns-in_err-stepped-clause-clean : goal.returns-in_err-stepped-clause-clean
returns-in_err-stepped-clause-clean g c = λ honest. stays_then _ _ _ (c.steps.invariant.2 honest) (c.in_err-stepped.ensures.clean honest)

pub returns-in_err-stepped-clause-wear : goal.returns-in_err-stepped-clause-wear
returns-in_err-stepped-clause-wear g c = rw (err_is _ _ c.from_residual.ensures.1) (writes_both c.steps.invariant.1 (λ never. never) c.in_err-stepped.ensures.wear)

pub returns-in-Some-clause-steps : goal.returns-in-Some-clause-steps
returns-in-Some-clause-steps g c = λ honest.
    let so = c.steps.invariant in
    told_to_end _ _ _ _ _ _ _ _ (so.3 honest) c.in_ok-stepped.stepped c.in-Some.report _ (sym c.report_of.ensures ∙ c.in-Some.is) (while_up _ _ _ _ _ _ _ _ so.0 (c.in_ok-stepped.ensures.answers honest))

pub returns-in-Some-clause-clean : goal.returns-in-Some-clause-clean
returns-in-Some-clause-clean g c = λ honest. stays_then _ _ _ (c.steps.invariant.2 honest) (c.in_ok-stepped.ensures.clean honest)

pub returns-in-Some-clause-wear : goal.returns-in-Some-clause-wear
returns-in-Some-clause-wear g c = writes_both c.steps.invariant.1 (λ never. never) c.in_ok-stepped.ensures.wear

pub steps-preserved : goal.steps-preserved
steps-preserved g c =
    let so = c.steps.invariant in
    let up = c.in_ok-stepped.ensures.settles.up so.0 in (
      up,
      writes_both so.1 (λ never. never) c.in_ok-stepped.ensures.wear,
      (λ honest. stays_then _ _ _ (so.2 honest) (c.in_ok-stepped.ensures.clean honest)),
      λ honest. one_stepped _ _ _ _ _ _ _ _ (so.3 honest) c.in_ok-stepped.stepped (sym c.report_of.ensures ∙ c.in_default.is)
          (stays_up _ _ _ _ _ _ _ _ up (while_up _ _ _ _ _ _ _ _ so.0 (c.in_ok-stepped.ensures.answers honest))) (c.in_ok-stepped.ensures.steps honest),
    )

pub returns-clause-steps : goal.returns-clause-steps
returns-clause-steps g c = λ honest. never_so_long _ _ _ _ _ _ _ _ (let late = c.steps-test.false in search (rules, arith)) (c.steps.invariant.3 honest)

pub returns-clause-up : goal.returns-clause-up
returns-clause-up g c = c.steps.invariant.0

pub returns-clause-clean : goal.returns-clause-clean
returns-clause-clean g c = c.steps.invariant.2

pub returns-clause-wear : goal.returns-clause-wear
returns-clause-wear g c = c.steps.invariant.1

pub returns-in_err-stepped-clause-bad_file : goal.returns-in_err-stepped-clause-bad_file
returns-in_err-stepped-clause-bad_file g c = λ honest.
    rw (err_is _ _ c.from_residual.ensures.1) (g.F.Files.content c.steps.shared.files, slot_of c.steps.shared.slots c.args.slot, c.steps.invariant.2 honest, c.in_err-stepped.ensures.bad_file honest)

pub returns-clause-bad_file : goal.returns-clause-bad_file
returns-clause-bad_file g c = λ honest. (g.F.Files.content c.steps.shared.files, None, c.steps.invariant.2 honest, inr refl)
