use Rattle.std.proofs.Common.{arith, sym, ◌∙◌}
use Rattle.std.proofs.lemmas.Result.{err_from_is_err_and}
use Rattle.vc_pkt.proofs.MessageLaws.{line_length}
use Rattle.vc_pkt.specs.LineView.{line_text}
use Rattle.vc_pkt.specs.ObjectStreamView.{object_stepped, progress_of}
use Rattle.vc_pkt.specs.StreamObjectView.{stored}
use Rattle.vc_message.specs.Incoming.{whole}
use Rattle.vc_message.proofs.IncomingLaws.{line_has_no_fault, line_here}
use Rattle.vc_message.proofs.StreamingLaws.{on_failed_line, on_going, on_lost_line, on_no_line_left, on_object, on_other, on_over, on_refused_line}
use Rattle.vc_message.proofs.SourceLaws.{ok_is_no_error, refusal_is_no_failure, tells_error, tells_not, tells_ok, tells_then}
use Rattle.vc_message.proofs.streaming.next_object.Goals as goal

pub returns-in_err-end-clause-fault : goal.returns-in_err-end-clause-fault
returns-in_err-end-clause-fault g c =
    let p = err_from_is_err_and c.from_residual.result c.from_residual.ensures.1 in
    rw (p.1, p.2) (λ before carrier so. on_failed_line before _ _ _ _ _ (c.lines.invariant.leads before carrier so) _ c.in_err-end.ensures.fault)

pub returns-in_default-clause-fault : goal.returns-in_default-clause-fault
returns-in_default-clause-fault g c = λ before carrier so. on_no_line_left before _ _ _ _ _ (c.lines.invariant.leads before carrier so) (rw c.in_default.is at c.in_ok-end.ensures.end)

pub returns-in_default-parse_line-clause-fault : goal.returns-in_default-parse_line-clause-fault
returns-in_default-parse_line-clause-fault g c = λ before carrier so.
    let took = rw c.in-Some.is at c.in_ok-end.ensures.line in
    on_lost_line before _ _ _ _ _ (c.lines.invariant.leads before carrier so) _ _ took

pub returns-in_err-step-clause-fault : goal.returns-in_err-step-clause-fault
returns-in_err-step-clause-fault g c =
    let took = rw c.in-Some.is at c.in_ok-end.ensures.line in
    let found = c.in-Ok.ensures in
    let line = line_here (g.R.Source.remaining c.take_line.new.reader) (line_text c.in-Ok.line) _ found.0 _ (whole took.line took.is) found.1 (sym c.deref.ensures.value ∙ found.2) in
    let p = err_from_is_err_and c.from_residual-in_err-step.result c.from_residual-in_err-step.ensures.1 in
    rw (p.1, p.2) (λ before carrier so. on_refused_line before _ _ _ _ carrier _ (c.lines.invariant.leads before carrier so) _ _ took (line_text c.in-Ok.line) line object_stepped c.in_err-step.field-0.0 c.in_err-step.ensures)

pub lines-preserved : goal.lines-preserved
lines-preserved g c =
    let took = rw c.in-Some.is at c.in_ok-end.ensures.line in
    let found = c.in-Ok.ensures in
    let line = line_here (g.R.Source.remaining c.take_line.new.reader) (line_text c.in-Ok.line) _ found.0 _ (whole took.line took.is) found.1 (sym c.deref.ensures.value ∙ found.2) in
    let four = line_length took.line _ took.is in
    let behind = took.behind in
    let few = c.lines.invariant.few in
    let from = c.lines.invariant.from in
    record {
      leads = λ before carrier so. on_going before _ _ _ _ carrier _ (c.lines.invariant.leads before carrier so) _ _ took (line_text c.in-Ok.line) line (progress_of c.in-More.next) (rw c.in-More.is at c.in_ok-step.ensures);
      few = omega (arith, four, behind, few);
      from = omega (arith, behind, from);
      failures = tells_not (tells_then c.lines.invariant.failures (λ none. none) c.in_ok-end.ensures.failures) ok_is_no_error (λ none. none);
    }

pub returns-in-Object-clause-object : goal.returns-in-Object-clause-object
returns-in-Object-clause-object g c =
    let took = rw c.in-Some.is at c.in_ok-end.ensures.line in
    let found = c.in-Ok.ensures in
    let line = line_here (g.R.Source.remaining c.take_line.new.reader) (line_text c.in-Ok.line) _ found.0 _ (whole took.line took.is) found.1 (sym c.deref.ensures.value ∙ found.2) in
    λ before carrier so may. on_object before _ _ _ _ carrier _ (c.lines.invariant.leads before carrier so) _ _ took (line_text c.in-Ok.line) line c.in-Object.first (stored c.in-Object.object) (rw c.in-Object.is at c.in_ok-step.ensures) may

pub returns-in-Object-clause-other : goal.returns-in-Object-clause-other
returns-in-Object-clause-other g c =
    let took = rw c.in-Some.is at c.in_ok-end.ensures.line in
    let found = c.in-Ok.ensures in
    let line = line_here (g.R.Source.remaining c.take_line.new.reader) (line_text c.in-Ok.line) _ found.0 _ (whole took.line took.is) found.1 (sym c.deref.ensures.value ∙ found.2) in
    λ before carrier so may. on_other before _ _ _ _ carrier _ (c.lines.invariant.leads before carrier so) _ _ took (line_text c.in-Ok.line) line c.in-Object.first (stored c.in-Object.object) (rw c.in-Object.is at c.in_ok-step.ensures) may

pub returns-in-End-clause-end : goal.returns-in-End-clause-end
returns-in-End-clause-end g c =
    let took = rw c.in-Some.is at c.in_ok-end.ensures.line in
    let found = c.in-Ok.ensures in
    let line = line_here (g.R.Source.remaining c.take_line.new.reader) (line_text c.in-Ok.line) _ found.0 _ (whole took.line took.is) found.1 (sym c.deref.ensures.value ∙ found.2) in
    λ before carrier so. on_over before _ _ _ _ carrier _ (c.lines.invariant.leads before carrier so) _ _ took (line_text c.in-Ok.line) line (rw c.in-End.is at c.in_ok-step.ensures)

pub returns-in-Object-clause-more : goal.returns-in-Object-clause-more
returns-in-Object-clause-more g c =
    let took = rw c.in-Some.is at c.in_ok-end.ensures.line in
    let four = line_length took.line _ took.is in
    let behind = took.behind in
    let from = c.lines.invariant.from in
    (omega (arith, four, behind, from), omega arith)

pub returns-in-End-clause-more : goal.returns-in-End-clause-more
returns-in-End-clause-more g c =
    let took = rw c.in-Some.is at c.in_ok-end.ensures.line in
    let four = line_length took.line _ took.is in
    let behind = took.behind in
    let from = c.lines.invariant.from in
    (omega (arith, four, behind, from), omega arith)

pub returns-in_err-end-clause-failures : goal.returns-in_err-end-clause-failures
returns-in_err-end-clause-failures g c =
    let p = err_from_is_err_and c.from_residual.result c.from_residual.ensures.1 in
    rw (p.1, p.2) (tells_error (tells_then c.lines.invariant.failures (λ none. none) c.in_err-end.ensures.failures) (λ is. is) (λ is. is))

pub returns-in_default-clause-failures : goal.returns-in_default-clause-failures
returns-in_default-clause-failures g c =
    let none = rw c.in_default.is at c.in_ok-end.ensures.end in
    let few = c.lines.invariant.few in
    absurd (omega (arith, none.3, few))

pub returns-in_default-parse_line-clause-failures : goal.returns-in_default-parse_line-clause-failures
returns-in_default-parse_line-clause-failures g c =
    let took = rw c.in-Some.is at c.in_ok-end.ensures.line in
    absurd (line_has_no_fault took.line _ _ _ took.is c.deref.ensures.value c.in_default-parse_line.ensures)

pub returns-in_err-step-clause-failures : goal.returns-in_err-step-clause-failures
returns-in_err-step-clause-failures g c =
    let p = err_from_is_err_and c.from_residual-in_err-step.result c.from_residual-in_err-step.ensures.1 in
    rw (p.1, p.2) (tells_not (tells_then c.lines.invariant.failures (λ none. none) c.in_ok-end.ensures.failures) ok_is_no_error (refusal_is_no_failure c.in_err-step.field-0.0))

pub returns-in-Object-clause-failures : goal.returns-in-Object-clause-failures
returns-in-Object-clause-failures g c = tells_ok (tells_then c.lines.invariant.failures (λ none. none) c.in_ok-end.ensures.failures) ok_is_no_error

pub returns-in-End-clause-failures : goal.returns-in-End-clause-failures
returns-in-End-clause-failures g c = tells_ok (tells_then c.lines.invariant.failures (λ none. none) c.in_ok-end.ensures.failures) ok_is_no_error
