use Rattle.std.proofs.Common.{Ok, sym, ap, ◌∙◌, subst}
use Rattle.std.proofs.lemmas.Result.{err_from_is_err_and}
use Rattle.vc_pkt.specs.LineView.{line_text}
use Rattle.vc_pkt.specs.StepView.{stepped}
use Rattle.vc_pkt.proofs.MessageLaws.{SoFar, at_start, within, on_no_line, on_more, on_done, on_behind, on_error, no_bytes, some_bytes}
use Rattle.vc_pkt.proofs.message.read_message.Goals as goal

pub lines-init : goal.lines-init
lines-init g c =
    subst (λ s. SoFar g.R.MessageReader.step g.R.MessageReader.start c.args.bytes.now c.args.bytes.now 0 s) (sym c.new-reader.ensures) (at_start _ _ _)

pub overflow_sub-place : goal.overflow_sub-place
overflow_sub-place g c = within _ _ _ _ _ _ c.lines.invariant

pub returns-in_err-line : goal.returns-in_err-line
returns-in_err-line g c =
    let p = err_from_is_err_and c.from_residual.result c.from_residual.ensures.1 in
    rw (p.1, p.2) (on_no_line _ _ _ _ _ _ c.lines.invariant c.in_err-line.field-0.0 c.in_err-line.ensures)

pub returns-in_err-next : goal.returns-in_err-next
returns-in_err-next g c =
    let r = c.from_residual-in_err-next in
    let p = err_from_is_err_and r.result r.ensures.1 in
    let found = c.in_ok-line.ensures in
    rw (p.1, p.2)
    (on_error _ _ _ _ _ _ c.lines.invariant (line_text c.in_ok-line.line) found.0 _ found.1 found.2 g.met.R.MessageReader.line_faults
    (stepped g.R.MessageReader.state_of g.R.MessageReader.text_of) c.in_err-next.field-0.0 c.in_err-next.ensures)

pub returns-then-not-is_empty : goal.returns-then-not-is_empty
returns-then-not-is_empty g c =
    let found = c.in_ok-line.ensures in
    let view = stepped g.R.MessageReader.state_of g.R.MessageReader.text_of in
    rw c.into.ensures
    (on_behind _ _ _ _ _ _ c.lines.invariant (line_text c.in_ok-line.line) found.0 _ found.1 found.2 _ (c.in_ok-next.ensures ∙ ap (λ s. Ok (view s)) c.in-Done.is) (some_bytes _ c.if-not-is_empty.ensures))

pub returns-in-Done : goal.returns-in-Done
returns-in-Done g c =
    let found = c.in_ok-line.ensures in
    let view = stepped g.R.MessageReader.state_of g.R.MessageReader.text_of in
    on_done _ _ _ _ _ _ c.lines.invariant (line_text c.in_ok-line.line) found.0 _ found.1 found.2 _ (c.in_ok-next.ensures ∙ ap (λ s. Ok (view s)) c.in-Done.is) (no_bytes _ c.if-not-is_empty.ensures)

pub lines-preserved : goal.lines-preserved
lines-preserved g c =
    let found = c.in_ok-line.ensures in
    let view = stepped g.R.MessageReader.state_of g.R.MessageReader.text_of in
    on_more _ _ _ _ _ _ c.lines.invariant (line_text c.in_ok-line.line) found.0 _ found.1 found.2 _ (c.in_ok-next.ensures ∙ ap (λ s. Ok (view s)) c.in-More.is)
