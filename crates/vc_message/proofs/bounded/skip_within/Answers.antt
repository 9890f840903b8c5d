use Rattle.std.proofs.Common.{inl}
use Rattle.std.proofs.lemmas.Result.{err_from_is_err_and}
use Rattle.vc_message.specs.AnyView.{message_text}
use Rattle.vc_message.specs.Streaming.{of_pack, of_push, text_of}
use Rattle.vc_message.proofs.SourceLaws.{ok_is_no_error, tells_error, tells_ok, tells_then}
use Rattle.vc_message.proofs.bounded.skip_within.Goals as goal
use Rattle.vc_push.specs.PushView.{head_text}

pub returns-in-Message-clause-message : goal.returns-in-Message-clause-message
returns-in-Message-clause-message g c = (message_text c.in-Message.field-0, rw c.in-Message.is at (rw c.in-Some.is at c.in_ok-found.ensures.head))

pub returns-in-Push-clause-message : goal.returns-in-Push-clause-message
returns-in-Push-clause-message g c =
    let so = rw c.in-Push.is at (rw c.in-Some.is at c.in_ok-found.ensures.head) in
    let head = head_text c.in-Push.field-0 in
    let all = c.in_ok-skip_push-in-Push.ensures.end (g.R.Source.remaining c.args.reader.now) head so in
    (text_of (of_push head all.0), all.1)

pub returns-clause-message : goal.returns-clause-message
returns-clause-message g c =
    let so = rw c.in-Pack.is at (rw c.in-Some.is at c.in_ok-found.ensures.head) in
    let ack = c.in-Pack.field-0 in
    let all = c.in_ok-skip_pack-in-Pack.ensures.end (g.R.Source.remaining c.args.reader.now) ack so in
    (text_of (of_pack ack all.0), all.1)

pub returns-in_err-found-clause-failures : goal.returns-in_err-found-clause-failures
returns-in_err-found-clause-failures g c =
    let p = err_from_is_err_and c.from_residual.result c.from_residual.ensures.1 in
    rw (p.1, p.2) (tells_error c.in_err-found.ensures.failures (λ is. is) (λ is. is))

pub returns-in_default-clause-failures : goal.returns-in_default-clause-failures
returns-in_default-clause-failures g c = tells_ok c.in_ok-found.ensures.failures ok_is_no_error

pub returns-in-Message-clause-failures : goal.returns-in-Message-clause-failures
returns-in-Message-clause-failures g c = tells_ok c.in_ok-found.ensures.failures ok_is_no_error

pub returns-in_err-skip_push-in-Push-clause-failures : goal.returns-in_err-skip_push-in-Push-clause-failures
returns-in_err-skip_push-in-Push-clause-failures g c =
    let p = err_from_is_err_and c.from_residual-in_err-skip_push-in-Push.result c.from_residual-in_err-skip_push-in-Push.ensures.1 in
    rw (p.1, p.2) (tells_error (tells_then c.in_ok-found.ensures.failures ok_is_no_error c.in_err-skip_push-in-Push.ensures.failures) (λ is. is) (λ is. is))

pub returns-in-Push-clause-failures : goal.returns-in-Push-clause-failures
returns-in-Push-clause-failures g c = tells_ok (tells_then c.in_ok-found.ensures.failures ok_is_no_error c.in_ok-skip_push-in-Push.ensures.failures) ok_is_no_error

pub returns-in_err-skip_pack-in-Pack-clause-failures : goal.returns-in_err-skip_pack-in-Pack-clause-failures
returns-in_err-skip_pack-in-Pack-clause-failures g c =
    let p = err_from_is_err_and c.from_residual-in_err-skip_pack-in-Pack.result c.from_residual-in_err-skip_pack-in-Pack.ensures.1 in
    rw (p.1, p.2) (tells_error (tells_then c.in_ok-found.ensures.failures ok_is_no_error c.in_err-skip_pack-in-Pack.ensures.failures) (λ is. is) (λ is. is))

pub returns-clause-failures : goal.returns-clause-failures
returns-clause-failures g c = tells_ok (tells_then c.in_ok-found.ensures.failures ok_is_no_error c.in_ok-skip_pack-in-Pack.ensures.failures) ok_is_no_error

pub returns-in_err-skip_push-in-Push-clause-fault : goal.returns-in_err-skip_push-in-Push-clause-fault
returns-in_err-skip_push-in-Push-clause-fault g c =
    let so = rw c.in-Push.is at (rw c.in-Some.is at c.in_ok-found.ensures.head) in
    let p = err_from_is_err_and c.from_residual-in_err-skip_push-in-Push.result c.from_residual-in_err-skip_push-in-Push.ensures.1 in
    rw (p.1, p.2) (inl (c.in_err-skip_push-in-Push.ensures.fault (g.R.Source.remaining c.args.reader.now) (head_text c.in-Push.field-0) so))

pub returns-in_err-skip_pack-in-Pack-clause-fault : goal.returns-in_err-skip_pack-in-Pack-clause-fault
returns-in_err-skip_pack-in-Pack-clause-fault g c =
    let so = rw c.in-Pack.is at (rw c.in-Some.is at c.in_ok-found.ensures.head) in
    let p = err_from_is_err_and c.from_residual-in_err-skip_pack-in-Pack.result c.from_residual-in_err-skip_pack-in-Pack.ensures.1 in
    rw (p.1, p.2) (inl (c.in_err-skip_pack-in-Pack.ensures.fault (g.R.Source.remaining c.args.reader.now) c.in-Pack.field-0 so))
