use Rattle.std.proofs.lemmas.Result.{err_from_is_err_and, IfOk-weaker, IfErr-weaker}
use Rattle.vc_expression.specs.Outcome.{Read}
use Rattle.vc_expression.specs.Faults.{ReadsRev}
use Rattle.vc_expression.specs.SetReading.{ReadsBehind, behind_at}
use Rattle.vc_expression.specs.Views.{rev_view}
use Rattle.vc_expression.proofs.OutcomeLemmas.{then_bad, next_bad}
use Rattle.vc_expression.proofs.set.read_based.Goals as goal

pub returns-in_err-rev-clause-fault : goal.returns-in_err-rev-clause-fault
returns-in_err-rev-clause-fault c =
    let p = err_from_is_err_and c.from_residual.result c.from_residual.ensures.1 in
    rw (p.1, p.2) (then_bad c.args.source.now (ReadsRev c.args.text.now) (λ rev rest o. ReadsBehind rev rest (behind_at rest) o) c.in_err-rev.field-0.0 c.in_err-rev.ensures.fault)

pub returns-clause-ok : goal.returns-clause-ok
returns-clause-ok c =
    IfOk-weaker c.read_behind.result _ _ (λ found h. (Read (rev_view c.in_ok-rev.rev) c.in_ok-rev.rest.now, c.in_ok-rev.ensures.ok, h)) c.read_behind.ensures.ok

pub returns-clause-stands : goal.returns-clause-stands
returns-clause-stands c = IfOk-weaker c.read_behind.result _ _ (λ found h. h c.args.text.now c.in_ok-rev.ensures.stands) c.read_behind.ensures.stands

pub returns-clause-fault : goal.returns-clause-fault
returns-clause-fault c =
    IfErr-weaker c.read_behind.result _ _ (λ e h. next_bad c.args.source.now (ReadsRev c.args.text.now) (λ rev rest o. ReadsBehind rev rest (behind_at rest) o) (rev_view c.in_ok-rev.rev) c.in_ok-rev.rest.now e c.in_ok-rev.ensures.ok h) c.read_behind.ensures.fault
