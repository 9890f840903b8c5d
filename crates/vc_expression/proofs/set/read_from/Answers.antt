use Rattle.std.proofs.lemmas.Result.{err_from_is_err_and}
use Rattle.std.proofs.Common.{◌≡◌, ◌==◌, false, length, ap, sym, ◌∙◌}
use Rattle.vc_expression.specs.Base.{name_of}
use Rattle.vc_expression.specs.Outcome.{Read}
use Rattle.vc_expression.specs.Faults.{ReadsRev}
use Rattle.vc_expression.specs.SetGrammar.{TermText, Both}
use Rattle.vc_expression.specs.SetReading.{range_view}
use Rattle.vc_expression.specs.Views.{rev_view}
use Rattle.vc_expression.proofs.OutcomeLemmas.{then_bad}
use Rattle.vc_expression.proofs.SetLemmas.{from_bad}
use Rattle.vc_expression.proofs.set.read_from.Goals as goal

pub returns-in_err-second-clause-fault : goal.returns-in_err-second-clause-fault
returns-in_err-second-clause-fault c =
    let some : (length (name_of c.args.text.now) == 0) ≡ false = rw c.split_name.ensures.name at (sym c.is_empty.ensures ∙ c.if-is_empty.false) in
    let p = err_from_is_err_and c.from_residual.result c.from_residual.ensures.1 in
    rw (p.1, p.2) (from_bad c.args.source.now c.args.dots (rev_view c.args.first) c.args.text.now c.in_err-second.field-0.0 some (then_bad c.args.source.now (ReadsRev c.args.text.now) (λ second rest o. o ≡ Read (range_view c.args.dots (Both (rev_view c.args.first) second)) rest) c.in_err-second.field-0.0 c.in_err-second.ensures.fault))

pub returns-clause-ok : goal.returns-clause-ok
returns-clause-ok c =
    let some : (length (name_of c.args.text.now) == 0) ≡ false = rw c.split_name.ensures.name at (sym c.is_empty.ensures ∙ c.if-is_empty.false) in
    rw some (Read (rev_view c.in_ok-second.second) c.in_ok-second.rest.now, c.in_ok-second.ensures.ok, ap (λ (t : TermText). Read t c.in_ok-second.rest.now) c.range-2.ensures.term)

pub returns-then-is_empty-clause-stands : goal.returns-then-is_empty-clause-stands
returns-then-is_empty-clause-stands c = λ front h. c.range.ensures.stands c.args.source.now front c.args.text.now h

pub returns-clause-stands : goal.returns-clause-stands
returns-clause-stands c = λ front h. c.range-2.ensures.stands c.args.source.now front c.in_ok-second.rest.now (c.args.text.now, h, c.in_ok-second.ensures.stands)
