use Rattle.std.proofs.Common.{◌≡◌, length, sym, ◌∙◌, subst, arith, rules}
use Rattle.std.proofs.lemmas.List.{places}
use Rattle.std.proofs.lemmas.Result.{err_from_is_err_and}
use Rattle.vc_pkt.specs.Faults.{FaultAt}
use Rattle.vc_pkt.specs.LineView.{line_text}
use Rattle.vc_pkt.specs.StepView.{stepped}
use Rattle.vc_pkt.proofs.MessageLaws.{line_length}
use Rattle.vc_message.specs.declared.incoming_fault.IncomingFault.TheVariants.{Memory}
use Rattle.vc_message.proofs.IncomingLaws.{end_is, in_empty, line_here, none_taken, on_last, on_loss, on_next, on_no_line_read, on_nothing, on_refusal, step_is}
use Rattle.vc_message.proofs.SourceLaws.{memory_is_no_failure, ok_is_no_error, refusal_is_no_failure, tells_error, tells_none, tells_not, tells_ok, tells_then, unread_is_no_failure}
use Rattle.vc_message.proofs.incoming.take_message.Goals as goal

pub lines-init : goal.lines-init
lines-init g c = record { taken = none_taken _ g.met.M.MessageReader.line_faults _ _ _ c.new-state.ensures; failures = tells_none (λ none. none) }

pub returns-in_err-push_line-clause-fault : goal.returns-in_err-push_line-clause-fault
returns-in_err-push_line-clause-fault g c =
    let lost = c.in_err-push_line.ensures in
    let p = err_from_is_err_and c.from_residual.result c.from_residual.ensures.1 in
    rw (p.1, p.2) (on_loss _ g.met.M.MessageReader.line_faults _ _ _ _ lost.err.0 _ _ _ c.lines.invariant.taken lost.err.1 _ lost.fault)

pub returns-in_default-clause-fault : goal.returns-in_default-clause-fault
returns-in_default-clause-fault g c =
    let read = c.in_ok-push_line.ensures.ok in
    on_loss _ g.met.M.MessageReader.line_faults _ _ _ _ read.0 _ _ _ c.lines.invariant.taken read.2 Memory tt

pub returns-then-end-eq0-clause-end : goal.returns-then-end-eq0-clause-end
returns-then-end-eq0-clause-end g c =
    let read = c.in_ok-push_line.ensures.ok in
    let whole = in_empty _ read.0 _ c.clear.ensures.items read.1 in
    let len : c.len.result ≡ length c.push_line.new.bytes.items = search (rules, places) in
    let long = end_is _ _ _ _ read.0 c.in-Some.ensures.1 len whole in
    on_nothing _ g.met.M.MessageReader.line_faults _ _ _ _ read.0 _ _ _ c.lines.invariant.taken read.2 read.3 (sym long ∙ c.if-end-eq0.true)

pub returns-in_err-found-clause-fault : goal.returns-in_err-found-clause-fault
returns-in_err-found-clause-fault g c =
    let read = c.in_ok-push_line.ensures.ok in
    let whole = in_empty _ read.0 _ c.clear.ensures.items read.1 in
    let len : c.len.result ≡ length c.push_line.new.bytes.items = search (rules, places) in
    let long = end_is _ _ _ _ read.0 c.in-Some.ensures.1 len whole in
    let p = err_from_is_err_and c.from_residual-in_err-found.result c.from_residual-in_err-found.ensures.1 in
    rw (p.1, p.2)
    (on_no_line_read _ g.met.M.MessageReader.line_faults _ _ _ _ read.0 _ _ _ c.lines.invariant.taken read.2 read.3 (λ z. c.if-end-eq0.false (long ∙ z)) _
    (subst (λ t. FaultAt c.lines.place t c.in_err-found.field-0.0) (c.as_slice.ensures.value ∙ whole) c.in_err-found.ensures))

pub returns-in_err-next-clause-fault : goal.returns-in_err-next-clause-fault
returns-in_err-next-clause-fault g c =
    let read = c.in_ok-push_line.ensures.ok in
    let whole = in_empty _ read.0 _ c.clear.ensures.items read.1 in
    let len : c.len.result ≡ length c.push_line.new.bytes.items = search (rules, places) in
    let long = end_is _ _ _ _ read.0 c.in-Some.ensures.1 len whole in
    let found = c.in_ok-found.ensures in
    let line = line_here _ (line_text c.in_ok-found.found) read.0 found.0 found.1 read.3 found.2 (sym (c.as_slice.ensures.value ∙ whole) ∙ found.3) in
    let p = err_from_is_err_and c.from_residual-in_err-next.result c.from_residual-in_err-next.ensures.1 in
    rw (p.1, p.2)
    (on_refusal _ g.met.M.MessageReader.line_faults _ _ _ _ read.0 _ _ _ c.lines.invariant.taken read.2 read.3 (λ z. c.if-end-eq0.false (long ∙ z)) (line_text c.in_ok-found.found) line
    (stepped g.M.MessageReader.state_of g.M.MessageReader.text_of) c.in_err-next.field-0.0 c.in_err-next.ensures)

pub returns-in-Done-clause-message : goal.returns-in-Done-clause-message
returns-in-Done-clause-message g c =
    let read = c.in_ok-push_line.ensures.ok in
    let whole = in_empty _ read.0 _ c.clear.ensures.items read.1 in
    let len : c.len.result ≡ length c.push_line.new.bytes.items = search (rules, places) in
    let long = end_is _ _ _ _ read.0 c.in-Some.ensures.1 len whole in
    let found = c.in_ok-found.ensures in
    let line = line_here _ (line_text c.in_ok-found.found) read.0 found.0 found.1 read.3 found.2 (sym (c.as_slice.ensures.value ∙ whole) ∙ found.3) in
    let view = stepped g.M.MessageReader.state_of g.M.MessageReader.text_of in
    on_last _ g.met.M.MessageReader.line_faults _ _ _ _ read.0 _ _ _ c.lines.invariant.taken read.2 read.3 (λ z. c.if-end-eq0.false (long ∙ z)) (line_text c.in_ok-found.found) line _
    (step_is view _ _ _ c.in_ok-next.ensures c.in-Done.is)

pub lines-smaller : goal.lines-smaller
lines-smaller g c =
    let read = c.in_ok-push_line.ensures.ok in
    let whole = in_empty _ read.0 _ c.clear.ensures.items read.1 in
    let len : c.len.result ≡ length c.push_line.new.bytes.items = search (rules, places) in
    let long = end_is _ _ _ _ read.0 c.in-Some.ensures.1 len whole in
    let found = c.in_ok-found.ensures in
    let line = line_here _ (line_text c.in_ok-found.found) read.0 found.0 found.1 read.3 found.2 (sym (c.as_slice.ensures.value ∙ whole) ∙ found.3) in
    let four = line_length (line_text c.in_ok-found.found) read.0 line in
    let small = c.in-Some.ensures.0 in
    omega (arith, four, long, len, small)

pub lines-preserved : goal.lines-preserved
lines-preserved g c =
    let read = c.in_ok-push_line.ensures.ok in
    let whole = in_empty _ read.0 _ c.clear.ensures.items read.1 in
    let len : c.len.result ≡ length c.push_line.new.bytes.items = search (rules, places) in
    let long = end_is _ _ _ _ read.0 c.in-Some.ensures.1 len whole in
    let found = c.in_ok-found.ensures in
    let line = line_here _ (line_text c.in_ok-found.found) read.0 found.0 found.1 read.3 found.2 (sym (c.as_slice.ensures.value ∙ whole) ∙ found.3) in
    let view = stepped g.M.MessageReader.state_of g.M.MessageReader.text_of in
    record {
      taken = rw long (on_next _ g.met.M.MessageReader.line_faults _ _ _ _ read.0 _ _ _ c.lines.invariant.taken read.2 read.3 (λ z. c.if-end-eq0.false (long ∙ z)) (line_text c.in_ok-found.found) line _
          (step_is view _ _ _ c.in_ok-next.ensures c.in-More.is));
      failures = tells_not (tells_then c.lines.invariant.failures (λ none. none) c.in_ok-push_line.ensures.failures) ok_is_no_error (λ none. none);
    }

pub returns-in_err-push_line-clause-failures : goal.returns-in_err-push_line-clause-failures
returns-in_err-push_line-clause-failures g c =
    let p = err_from_is_err_and c.from_residual.result c.from_residual.ensures.1 in
    rw (p.1, p.2) (tells_error (tells_then c.lines.invariant.failures (λ none. none) c.in_err-push_line.ensures.failures) (λ is. is) (λ is. is))

pub returns-in_default-clause-failures : goal.returns-in_default-clause-failures
returns-in_default-clause-failures g c = tells_not (tells_then c.lines.invariant.failures (λ none. none) c.in_ok-push_line.ensures.failures) ok_is_no_error memory_is_no_failure

pub returns-then-end-eq0-clause-failures : goal.returns-then-end-eq0-clause-failures
returns-then-end-eq0-clause-failures g c = tells_ok (tells_then c.lines.invariant.failures (λ none. none) c.in_ok-push_line.ensures.failures) ok_is_no_error

pub returns-in_err-found-clause-failures : goal.returns-in_err-found-clause-failures
returns-in_err-found-clause-failures g c =
    let p = err_from_is_err_and c.from_residual-in_err-found.result c.from_residual-in_err-found.ensures.1 in
    rw (p.1, p.2) (tells_not (tells_then c.lines.invariant.failures (λ none. none) c.in_ok-push_line.ensures.failures) ok_is_no_error unread_is_no_failure)

pub returns-in_err-next-clause-failures : goal.returns-in_err-next-clause-failures
returns-in_err-next-clause-failures g c =
    let p = err_from_is_err_and c.from_residual-in_err-next.result c.from_residual-in_err-next.ensures.1 in
    rw (p.1, p.2) (tells_not (tells_then c.lines.invariant.failures (λ none. none) c.in_ok-push_line.ensures.failures) ok_is_no_error (refusal_is_no_failure c.in_err-next.field-0.0))

pub returns-in-Done-clause-failures : goal.returns-in-Done-clause-failures
returns-in-Done-clause-failures g c = tells_ok (tells_then c.lines.invariant.failures (λ none. none) c.in_ok-push_line.ensures.failures) ok_is_no_error
