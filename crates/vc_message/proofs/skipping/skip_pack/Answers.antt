use Rattle.std.proofs.Common.{arith, sym, subst}
use Rattle.std.proofs.lemmas.Result.{err_from_is_err_and}
use Rattle.vc_pkt.specs.Carried.{with_object}
use Rattle.vc_pkt.specs.StreamObjectView.{stored}
use Rattle.vc_pkt.specs.declared.fault.PktFault.{PktFault}
use Rattle.vc_message.specs.AnyMessage.{any_step, beginning}
use Rattle.vc_message.specs.Incoming.{TakesFault}
use Rattle.vc_message.specs.Streaming.{of_pack}
use Rattle.vc_message.proofs.SourceLaws.{ok_is_no_error, tells_error, tells_not, tells_ok, tells_then, unread_is_no_failure}
use Rattle.vc_message.proofs.skipping.skip_pack.Goals as goal

pub returns-in_err-found-clause-fault : goal.returns-in_err-found-clause-fault
returns-in_err-found-clause-fault g c =
    let p = err_from_is_err_and c.from_residual.result c.from_residual.ensures.1 in
    rw (p.1, p.2) (λ before ack so. let at = c.objects.invariant.leads before ack so in c.in_err-found.ensures.fault before (of_pack ack at.0) at.1)

pub returns-in_default-clause-end : goal.returns-in_default-clause-end
returns-in_default-clause-end g c = λ before ack so.
    let at = c.objects.invariant.leads before ack so in
    (at.0, (rw c.in_default.is at c.in_ok-found.ensures.end) before (of_pack ack at.0) at.1)

pub returns-in_err-admit-clause-fault : goal.returns-in_err-admit-clause-fault
returns-in_err-admit-clause-fault g c =
    let p = err_from_is_err_and c.from_residual-in_err-admit.result c.from_residual-in_err-admit.ensures.1 in
    let why = c.in_err-admit.ensures.fault in
    let other = rw c.in-Some.is at c.in_ok-found.ensures.other in
    rw (p.1, p.2) (λ before ack so.
    let at = c.objects.invariant.leads before ack so in
    subst (λ (f : PktFault). TakesFault any_step beginning before (g.R.Source.remaining c.next_object.new.reader) f) (sym why.0) (other before (of_pack ack at.0) at.1 why.1))

pub objects-preserved : goal.objects-preserved
objects-preserved g c =
    let next = rw c.in-Some.is at c.in_ok-found.ensures.object in
    record {
      leads = λ before ack so. let at = c.objects.invariant.leads before ack so in (with_object (stored c.in-Some.found.1) at.0, next before (of_pack ack at.0) at.1 c.in_ok-admit.ensures.ok);
      few = c.in_ok-found.ensures.few;
      failures = tells_not (tells_then c.objects.invariant.failures (λ none. none) c.in_ok-found.ensures.failures) ok_is_no_error (λ none. none);
    }

pub objects-smaller : goal.objects-smaller
objects-smaller g c = let more = c.in_ok-found.ensures.more in omega (arith, more.0, more.1)

pub returns-in_err-found-clause-failures : goal.returns-in_err-found-clause-failures
returns-in_err-found-clause-failures g c =
    let p = err_from_is_err_and c.from_residual.result c.from_residual.ensures.1 in
    rw (p.1, p.2) (tells_error (tells_then c.objects.invariant.failures (λ none. none) c.in_err-found.ensures.failures) (λ is. is) (λ is. is))

pub returns-in_default-clause-failures : goal.returns-in_default-clause-failures
returns-in_default-clause-failures g c = tells_ok (tells_then c.objects.invariant.failures (λ none. none) c.in_ok-found.ensures.failures) ok_is_no_error

pub returns-in_err-admit-clause-failures : goal.returns-in_err-admit-clause-failures
returns-in_err-admit-clause-failures g c =
    let p = err_from_is_err_and c.from_residual-in_err-admit.result c.from_residual-in_err-admit.ensures.1 in
    rw (p.1, p.2) (tells_not (tells_then c.objects.invariant.failures (λ none. none) c.in_ok-found.ensures.failures) ok_is_no_error unread_is_no_failure)
