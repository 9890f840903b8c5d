use Rattle.std.proofs.Common.{drop, take, arith, refl, sym, true≢false}
use Rattle.std.proofs.KnownBytes.{Consumes-kept}
use Rattle.std.proofs.lemmas.Result.{err_from_is_err_and}
use Rattle.vc_message.proofs.IncomingReads.{filled_length, filled_more, filled_none}
use Rattle.vc_message.proofs.SourceLaws.{tells_as, tells_none, tells_not, tells_ok, tells_then}
use Rattle.vc_message.proofs.incoming.fill.Goals as goal

pub returns-in_err-n-clause-err : goal.returns-in_err-n-clause-err
returns-in_err-n-clause-err g c =
    let so = c.reads.invariant.filled in
    let len = filled_length c.reads.buffer c.args.at c.reads.filled so.from so.within in
    let p = err_from_is_err_and c.from_residual.result c.from_residual.ensures.1 in
    rw p.1 (drop c.args.at (take c.reads.filled c.reads.buffer), Consumes-kept _ _ _ _ so.consumed c.in_err-n.ensures.err, omega (arith, len, so.from, so.within, so.long))

pub returns-in_err-n-clause-failures : goal.returns-in_err-n-clause-failures
returns-in_err-n-clause-failures g c =
    let p = err_from_is_err_and c.from_residual.result c.from_residual.ensures.1 in
    rw (p.1, p.2) (tells_as (tells_then c.reads.invariant.failures (λ none. none) c.in_err-n.ensures.failures) (λ told. refl) (λ told. refl))

pub returns-in-0-clause-failures : goal.returns-in-0-clause-failures
returns-in-0-clause-failures g c =
    tells_ok (tells_then c.reads.invariant.failures (λ none. none) c.in_ok-n.ensures.failures) (λ told. true≢false (sym told))

pub returns-clause-failures : goal.returns-clause-failures
returns-clause-failures g c = tells_ok c.reads.invariant.failures (λ none. none)

pub reads-init : goal.reads-init
reads-init g c = record { filled = filled_none _ _ _ c.requires; failures = tells_none (λ none. none) }

pub reads-preserved : goal.reads-preserved
reads-preserved g c = record {
  filled = filled_more _ _ _ _ _ _ _ _ c.reads.invariant.filled c.read_at.auto.buffer c.in_ok-n.ensures.front _ c.in_ok-n.ensures.fits c.in_ok-n.ensures.ok;
  failures = tells_not (tells_then c.reads.invariant.failures (λ none. none) c.in_ok-n.ensures.failures) (λ told. true≢false (sym told)) (λ none. none);
}
