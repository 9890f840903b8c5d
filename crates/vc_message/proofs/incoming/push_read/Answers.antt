use Rattle.std.proofs.Common.{◌≡◌, ◌+◌, length, drop, take, ap, ◌∙◌, arith, rules}
use Rattle.std.proofs.lemmas.List.{places, with_items_is}
use Rattle.std.proofs.lemmas.Result.{err_from_is_err_and}
use Rattle.vc_message.proofs.IncomingReads.{cut_there, filled_length, grown_front}
use Rattle.vc_message.proofs.SourceLaws.{memory_is_no_failure, ok_is_no_error, tells_error, tells_none, tells_ok}
use Rattle.vc_message.proofs.incoming.push_read.Goals as goal

pub returns-clause-ok : goal.returns-clause-ok
returns-clause-ok g c =
    let old = c.args.bytes.now.items in
    let start = c.len-start.result in
    let buffer = c.fill.new.buffer in
    let end = c.in_ok-end.end in
    let same : start ≡ length old = search (rules, places) in
    let value = c.as_mut_slice.ensures.value in
    let filled = c.in_ok-end.ensures in
    let long : length buffer ≡ start + c.args.count = search (rules, places) in
    let whole : c.truncate.new.self.items ≡ take end buffer = c.truncate.ensures.items ∙ ap (take end) (with_items_is c.resize.new.self buffer (search (rules, places))) in
    let front : take start buffer ≡ old = filled.same.1 ∙ ap (take start) value ∙ grown_front old _ _ start (start + c.args.count) same (omega arith) c.in_ok-resize.ensures.items in
    let len = filled_length buffer start end filled.within.0 filled.within.1 in
    (drop start (take end buffer), whole ∙ cut_there old buffer start end filled.within.0 front, filled.bytes, omega (arith, len, long, filled.within), λ less. filled.end (omega (arith, len, long, less)))

pub returns-in_err-resize-clause-failures : goal.returns-in_err-resize-clause-failures
returns-in_err-resize-clause-failures g c =
    let p = err_from_is_err_and c.from_residual.result c.from_residual.ensures.1 in
    rw (p.1, p.2) (tells_none memory_is_no_failure)

pub returns-in_err-end-clause-failures : goal.returns-in_err-end-clause-failures
returns-in_err-end-clause-failures g c =
    let p = err_from_is_err_and c.from_residual-in_err-end.result c.from_residual-in_err-end.ensures.1 in
    rw (p.1, p.2) (tells_error c.in_err-end.ensures.failures (λ is. is) (λ is. is))

pub returns-clause-failures : goal.returns-clause-failures
returns-clause-failures g c = tells_ok c.in_ok-end.ensures.failures ok_is_no_error
