use Rattle.std.proofs.lemmas.Result.{err_from_is_err_and}
use Rattle.std.proofs.Common.{◌≡◌, ◌++◌, ap, refl}
use Rattle.vc_expression.specs.Outcome.{Read}
use Rattle.vc_expression.specs.Faults.{ReadsRev}
use Rattle.vc_expression.specs.SetGrammar.{TermText, To, dots_text}
use Rattle.vc_expression.specs.SetReading.{range_view}
use Rattle.vc_expression.specs.Views.{rev_view}
use Rattle.vc_expression.proofs.OutcomeLemmas.{then_bad}
use Rattle.vc_expression.proofs.set.read_to.Goals as goal

pub returns-in_err-rev-clause-fault : goal.returns-in_err-rev-clause-fault
returns-in_err-rev-clause-fault c =
    let p = err_from_is_err_and c.from_residual.result c.from_residual.ensures.1 in
    rw (p.1, p.2) (then_bad c.args.source.now (ReadsRev c.args.text.now) (λ rev rest o. o ≡ Read (range_view c.args.dots (To rev)) rest) c.in_err-rev.field-0.0 c.in_err-rev.ensures.fault)

pub returns-clause-ok : goal.returns-clause-ok
returns-clause-ok c = (Read (rev_view c.in_ok-rev.rev) c.in_ok-rev.rest.now, c.in_ok-rev.ensures.ok, ap (λ (t : TermText). Read t c.in_ok-rev.rest.now) c.range.ensures.term)

pub returns-clause-stands : goal.returns-clause-stands
returns-clause-stands c = c.range.ensures.stands c.args.source.now (dots_text c.args.dots ++ c.args.text.now) c.in_ok-rev.rest.now (c.args.text.now, refl, c.in_ok-rev.ensures.stands)
