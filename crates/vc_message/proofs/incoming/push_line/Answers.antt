use Rattle.std.proofs.Common.{◌≡◌, ◌++◌, length, subst, rules}
use Rattle.std.proofs.lemmas.List.{places}
use Rattle.std.proofs.lemmas.Result.{err_from_is_err_and}
use Rattle.vc_message.specs.Incoming.{IsRest}
use Rattle.vc_message.proofs.IncomingLines.{front_read, read_behind, read_both, reads_rest, takes_rest, within_four}
use Rattle.vc_message.proofs.SourceLaws.{ok_is_no_error, tells_error, tells_ok, tells_then}
use Rattle.vc_message.proofs.incoming.push_line.Goals as goal

pub returns-then-rest-eq0-clause-ok : goal.returns-then-rest-eq0-clause-ok
returns-then-rest-eq0-clause-ok g c =
    let first = c.in_ok-push_read.ensures.ok in
    let start = c.len-start.result in
    let same : start ≡ length c.args.bytes.now.items = search (rules, places) in
    let front = read_behind c.args.bytes.now.items first.0 _ _ start same c.behind.ensures first.1 in
    let rest = subst (λ t. IsRest t c.rest_len-rest.result) front c.rest_len-rest.ensures in
    (first.0, first.1, (first.2, within_four first.0 first.3), front_read _ first.0 _ rest c.if-rest-eq0.true first.4)

pub returns-in_err-push_read-2-clause-err : goal.returns-in_err-push_read-2-clause-err
returns-in_err-push_read-2-clause-err g c =
    let first = c.in_ok-push_read.ensures.ok in
    let more = c.in_err-push_read-2.ensures.err in
    let start = c.len-start.result in
    let same : start ≡ length c.args.bytes.now.items = search (rules, places) in
    let front = read_behind c.args.bytes.now.items first.0 _ _ start same c.behind.ensures first.1 in
    let rest = subst (λ t. IsRest t c.rest_len-rest.result) front c.rest_len-rest.ensures in
    let p = err_from_is_err_and c.from_residual-in_err-push_read-2.result c.from_residual-in_err-push_read-2.ensures.1 in
    rw p.1 (first.0 ++ more.0, takes_rest _ _ _ first.0 more.0 first.2 more.1 _ rest c.if-rest-eq0.false more.2)

pub returns-clause-ok : goal.returns-clause-ok
returns-clause-ok g c =
    let first = c.in_ok-push_read.ensures.ok in
    let more = c.in_ok-push_read-2.ensures.ok in
    let start = c.len-start.result in
    let same : start ≡ length c.args.bytes.now.items = search (rules, places) in
    let front = read_behind c.args.bytes.now.items first.0 _ _ start same c.behind.ensures first.1 in
    let rest = subst (λ t. IsRest t c.rest_len-rest.result) front c.rest_len-rest.ensures in (
      first.0 ++ more.0,
      read_both c.args.bytes.now.items first.0 more.0 _ _ first.1 more.1,
      takes_rest _ _ _ first.0 more.0 first.2 more.2 _ rest c.if-rest-eq0.false more.3,
      reads_rest _ _ _ first.0 more.0 first.2 more.2 _ rest c.if-rest-eq0.false more.3 more.4,
    )

pub returns-in_err-push_read-clause-failures : goal.returns-in_err-push_read-clause-failures
returns-in_err-push_read-clause-failures g c =
    let p = err_from_is_err_and c.from_residual.result c.from_residual.ensures.1 in
    rw (p.1, p.2) (tells_error c.in_err-push_read.ensures.failures (λ is. is) (λ is. is))

pub returns-then-rest-eq0-clause-failures : goal.returns-then-rest-eq0-clause-failures
returns-then-rest-eq0-clause-failures g c = tells_ok c.in_ok-push_read.ensures.failures ok_is_no_error

pub returns-in_err-push_read-2-clause-failures : goal.returns-in_err-push_read-2-clause-failures
returns-in_err-push_read-2-clause-failures g c =
    let p = err_from_is_err_and c.from_residual-in_err-push_read-2.result c.from_residual-in_err-push_read-2.ensures.1 in
    rw (p.1, p.2) (tells_error (tells_then c.in_ok-push_read.ensures.failures ok_is_no_error c.in_err-push_read-2.ensures.failures) (λ is. is) (λ is. is))

pub returns-clause-failures : goal.returns-clause-failures
returns-clause-failures g c = tells_ok (tells_then c.in_ok-push_read.ensures.failures ok_is_no_error c.in_ok-push_read-2.ensures.failures) ok_is_no_error
