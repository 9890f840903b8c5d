use Rattle.std.proofs.Common.{◌≡◌, ℕ, List, length, sym, ◌∙◌, subst, rules}
use Rattle.std.proofs.lemmas.List.{places}
use Rattle.std.proofs.lemmas.Result.{err_from_is_err_and}
use Rattle.vc_pkt.specs.LineView.{line_text}
use Rattle.vc_message.specs.Streaming.{TakesLine}
use Rattle.vc_message.proofs.IncomingLaws.{end_is, in_empty, line_here}
use Rattle.vc_message.proofs.SourceLaws.{memory_is_no_failure, ok_is_no_error, tells_error, tells_not, tells_ok, unread_is_no_failure}
use Rattle.vc_message.proofs.streaming.take_line.Goals as goal

pub returns-clause-line : goal.returns-clause-line
returns-clause-line g c =
    let read = c.in_ok-push_line.ensures.ok in
    let whole = in_empty _ read.0 _ c.clear.ensures.items read.1 in
    let len : c.len.result ≡ length c.push_line.new.bytes.items = search (rules, places) in
    let long = end_is _ _ _ _ read.0 c.in-Some.ensures.1 len whole in
    let found = c.in_ok-line_at.ensures in
    let line = line_text c.in_ok-line_at.field-0 in
    let is = line_here _ line read.0 found.0 found.1 read.3 found.2 (sym (c.as_slice.ensures.value ∙ whole) ∙ found.3) in
    subst (λ (bytes : List ℕ). TakesLine (g.R.Source.remaining c.args.reader.now) (g.R.Source.remaining c.push_line.new.reader) c.args.place c.in-Some.end bytes) (sym whole)
    (record { line = line; is = is; taken = read.2; behind = long })

pub returns-in_err-push_line-clause-failures : goal.returns-in_err-push_line-clause-failures
returns-in_err-push_line-clause-failures g c =
    let p = err_from_is_err_and c.from_residual.result c.from_residual.ensures.1 in
    rw (p.1, p.2) (tells_error c.in_err-push_line.ensures.failures (λ is. is) (λ is. is))

pub returns-in_default-clause-failures : goal.returns-in_default-clause-failures
returns-in_default-clause-failures g c = tells_not c.in_ok-push_line.ensures.failures ok_is_no_error memory_is_no_failure

pub returns-then-end-eq0-clause-failures : goal.returns-then-end-eq0-clause-failures
returns-then-end-eq0-clause-failures g c = tells_ok c.in_ok-push_line.ensures.failures ok_is_no_error

pub returns-in_err-line_at-clause-failures : goal.returns-in_err-line_at-clause-failures
returns-in_err-line_at-clause-failures g c =
    let p = err_from_is_err_and c.from_residual-in_err-line_at.result c.from_residual-in_err-line_at.ensures.1 in
    rw (p.1, p.2) (tells_not c.in_ok-push_line.ensures.failures ok_is_no_error unread_is_no_failure)

pub returns-clause-failures : goal.returns-clause-failures
returns-clause-failures g c = tells_ok c.in_ok-push_line.ensures.failures ok_is_no_error
