use Rattle.std.proofs.Common.{arith, ◌+◌, inl, sym, ◌∙◌, subst}
use Rattle.std.proofs.lemmas.Result.{err_from_is_err_and}
use Rattle.vc_pkt.proofs.MessageLaws.{line_length}
use Rattle.vc_pkt.specs.LineView.{line_text}
use Rattle.vc_pkt.specs.StepView.{stepped}
use Rattle.vc_message.specs.AnyMessage.{AnyState, any_step, beginning}
use Rattle.vc_message.specs.AnyView.{message_text, reader_state}
use Rattle.vc_message.specs.Incoming.{whole}
use Rattle.vc_message.specs.Streaming.{LeadsTo}
use Rattle.vc_message.proofs.BoundedLaws.{beyond, within}
use Rattle.vc_message.proofs.IncomingLaws.{line_has_no_fault, line_here}
use Rattle.vc_message.proofs.StreamingLaws.{head_taken, on_failed_line, on_lost_line, on_message, on_refused, onward_to}
use Rattle.vc_message.proofs.SourceLaws.{ok_is_no_error, refusal_is_no_failure, tells_error, tells_not, tells_ok, tells_then, unread_is_no_failure}
use Rattle.vc_message.proofs.bounded.read_head_within.Goals as goal

pub returns-in_err-end-clause-fault : goal.returns-in_err-end-clause-fault
returns-in_err-end-clause-fault g c =
    let p = err_from_is_err_and c.from_residual-in_err-end.result c.from_residual-in_err-end.ensures.1 in
    rw (p.1, p.2) (inl (on_failed_line (g.R.Source.remaining c.args.reader.now) (g.R.Source.remaining c.lines.reader) (g.R.Source.remaining c.take_line.new.reader) c.lines.bytes c.lines.lines (reader_state c.lines.state) c.lines.invariant.leads _ c.in_err-end.ensures.fault))

pub returns-in_default-parse_line-clause-fault : goal.returns-in_default-parse_line-clause-fault
returns-in_default-parse_line-clause-fault g c =
    let took = rw c.in-Some.is at c.in_ok-end.ensures.line in
    inl (on_lost_line (g.R.Source.remaining c.args.reader.now) (g.R.Source.remaining c.lines.reader) (g.R.Source.remaining c.take_line.new.reader) c.lines.bytes c.lines.lines (reader_state c.lines.state) c.lines.invariant.leads _ _ took)

pub returns-in_err-step-clause-fault : goal.returns-in_err-step-clause-fault
returns-in_err-step-clause-fault g c =
    let took = rw c.in-Some.is at c.in_ok-end.ensures.line in
    let found = c.in-Ok.ensures in
    let line = line_here (g.R.Source.remaining c.take_line.new.reader) (line_text c.in-Ok.found) _ found.0 _ (whole took.line took.is) found.1 (sym c.deref.ensures.value ∙ found.2) in
    let p = err_from_is_err_and c.from_residual-in_err-step.result c.from_residual-in_err-step.ensures.1 in
    rw (p.1, p.2) (inl (on_refused (g.R.Source.remaining c.args.reader.now) (g.R.Source.remaining c.lines.reader) (g.R.Source.remaining c.take_line.new.reader) c.lines.bytes c.lines.lines (reader_state c.lines.state) c.lines.invariant.leads _ _ took (line_text c.in-Ok.found) line (stepped reader_state message_text) c.in_err-step.field-0.0 c.in_err-step.ensures))

pub returns-in-Done-clause-head : goal.returns-in-Done-clause-head
returns-in-Done-clause-head g c =
    let took = rw c.in-Some.is at c.in_ok-end.ensures.line in
    let found = c.in-Ok.ensures in
    let line = line_here (g.R.Source.remaining c.take_line.new.reader) (line_text c.in-Ok.found) _ found.0 _ (whole took.line took.is) found.1 (sym c.deref.ensures.value ∙ found.2) in
    on_message (g.R.Source.remaining c.args.reader.now) (g.R.Source.remaining c.lines.reader) (g.R.Source.remaining c.take_line.new.reader) c.lines.bytes c.lines.lines (reader_state c.lines.state) c.lines.invariant.leads _ _ took (line_text c.in-Ok.found) line (message_text c.in-Done.message) (rw c.in-Done.is at c.in_ok-step.ensures)

pub returns-in-Done-clause-few : goal.returns-in-Done-clause-few
returns-in-Done-clause-few g c =
    let took = rw c.in-Some.is at c.in_ok-end.ensures.line in
    let four = line_length took.line _ took.is in
    let behind = took.behind in
    let few = c.lines.invariant.few in
    omega (arith, four, behind, few)

pub returns-in-Ok-head_of-clause-head : goal.returns-in-Ok-head_of-clause-head
returns-in-Ok-head_of-clause-head g c =
    let took = rw c.in-Some.is at c.in_ok-end.ensures.line in
    let found = c.in-Ok.ensures in
    let line = line_here (g.R.Source.remaining c.take_line.new.reader) (line_text c.in-Ok.found) _ found.0 _ (whole took.line took.is) found.1 (sym c.deref.ensures.value ∙ found.2) in
    head_taken _ _ c.in-Ok-head_of.head _ _ (reader_state c.in-More.next) c.in-Ok-head_of.ensures
    (onward_to (g.R.Source.remaining c.args.reader.now) (g.R.Source.remaining c.lines.reader) (g.R.Source.remaining c.take_line.new.reader) c.lines.bytes c.lines.lines (reader_state c.lines.state) c.lines.invariant.leads _ _ took (line_text c.in-Ok.found) line (reader_state c.in-More.next) (rw c.in-More.is at c.in_ok-step.ensures))

pub returns-in-Ok-head_of-clause-few : goal.returns-in-Ok-head_of-clause-few
returns-in-Ok-head_of-clause-few g c =
    let took = rw c.in-Some.is at c.in_ok-end.ensures.line in
    let four = line_length took.line _ took.is in
    let behind = took.behind in
    let few = c.lines.invariant.few in
    omega (arith, four, behind, few)

pub lines-preserved : goal.lines-preserved
lines-preserved g c =
    let took = rw c.in-Some.is at c.in_ok-end.ensures.line in
    let found = c.in-Ok.ensures in
    let line = line_here (g.R.Source.remaining c.take_line.new.reader) (line_text c.in-Ok.found) _ found.0 _ (whole took.line took.is) found.1 (sym c.deref.ensures.value ∙ found.2) in
    let four = line_length took.line _ took.is in
    let behind = took.behind in
    let few = c.lines.invariant.few in
    record {
      leads = subst (λ (s : AnyState). LeadsTo any_step beginning (g.R.Source.remaining c.args.reader.now) (g.R.Source.remaining c.take_line.new.reader) c.in-Some.end (c.lines.lines + 1) s) (sym c.in-Err.ensures)
          (onward_to (g.R.Source.remaining c.args.reader.now) (g.R.Source.remaining c.lines.reader) (g.R.Source.remaining c.take_line.new.reader) c.lines.bytes c.lines.lines (reader_state c.lines.state) c.lines.invariant.leads _ _ took (line_text c.in-Ok.found) line (reader_state c.in-More.next) (rw c.in-More.is at c.in_ok-step.ensures));
      few = omega (arith, four, behind, few);
      failures = tells_not (tells_then c.lines.invariant.failures (λ none. none) c.in_ok-end.ensures.failures) ok_is_no_error (λ none. none);
    }

pub returns-in_err-end-clause-failures : goal.returns-in_err-end-clause-failures
returns-in_err-end-clause-failures g c =
    let p = err_from_is_err_and c.from_residual-in_err-end.result c.from_residual-in_err-end.ensures.1 in
    rw (p.1, p.2) (tells_error (tells_then c.lines.invariant.failures (λ none. none) c.in_err-end.ensures.failures) (λ is. is) (λ is. is))

pub returns-in_default-clause-failures : goal.returns-in_default-clause-failures
returns-in_default-clause-failures g c = tells_ok (tells_then c.lines.invariant.failures (λ none. none) c.in_ok-end.ensures.failures) ok_is_no_error

pub returns-in_default-parse_line-clause-failures : goal.returns-in_default-parse_line-clause-failures
returns-in_default-parse_line-clause-failures g c =
    let took = rw c.in-Some.is at c.in_ok-end.ensures.line in
    absurd (line_has_no_fault took.line _ _ _ took.is c.deref.ensures.value c.in_default-parse_line.ensures)

pub returns-in_err-step-clause-failures : goal.returns-in_err-step-clause-failures
returns-in_err-step-clause-failures g c =
    let p = err_from_is_err_and c.from_residual-in_err-step.result c.from_residual-in_err-step.ensures.1 in
    rw (p.1, p.2) (tells_not (tells_then c.lines.invariant.failures (λ none. none) c.in_ok-end.ensures.failures) ok_is_no_error (refusal_is_no_failure c.in_err-step.field-0.0))

pub returns-in-Done-clause-failures : goal.returns-in-Done-clause-failures
returns-in-Done-clause-failures g c = tells_ok (tells_then c.lines.invariant.failures (λ none. none) c.in_ok-end.ensures.failures) ok_is_no_error

pub returns-in-Ok-head_of-clause-failures : goal.returns-in-Ok-head_of-clause-failures
returns-in-Ok-head_of-clause-failures g c = tells_ok (tells_then c.lines.invariant.failures (λ none. none) c.in_ok-end.ensures.failures) ok_is_no_error

pub returns-in_err-stay_within-clause-fault : goal.returns-in_err-stay_within-clause-fault
returns-in_err-stay_within-clause-fault g c =
    let p = err_from_is_err_and c.from_residual.result c.from_residual.ensures.1 in
    rw (p.1, p.2) (beyond c.args.bound _ _ c.lines.bytes c.lines.lines (reader_state c.lines.state) _ c.lines.invariant.leads c.in_err-stay_within.ensures.fault)

pub returns-in_err-stay_within-clause-failures : goal.returns-in_err-stay_within-clause-failures
returns-in_err-stay_within-clause-failures g c =
    let p = err_from_is_err_and c.from_residual.result c.from_residual.ensures.1 in
    rw (p.1, p.2) (tells_not c.lines.invariant.failures (λ none. none) unread_is_no_failure)

pub returns-in-Done-clause-within : goal.returns-in-Done-clause-within
returns-in-Done-clause-within g c =
    let took = rw c.in-Some.is at c.in_ok-end.ensures.line in
    within c.args.bound _ _ c.lines.bytes c.in-Some.end c.lines.lines _ took c.in_ok-stay_within.ensures.ok

pub returns-in-Ok-head_of-clause-within : goal.returns-in-Ok-head_of-clause-within
returns-in-Ok-head_of-clause-within g c =
    let took = rw c.in-Some.is at c.in_ok-end.ensures.line in
    within c.args.bound _ _ c.lines.bytes c.in-Some.end c.lines.lines _ took c.in_ok-stay_within.ensures.ok
