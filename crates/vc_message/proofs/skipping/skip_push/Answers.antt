use Rattle.std.proofs.Common.{arith, refl}
use Rattle.std.proofs.lemmas.Result.{err_from_is_err_and}
use Rattle.vc_pkt.specs.StreamObjectView.{stored}
use Rattle.vc_push.specs.Push.{carry}
use Rattle.vc_message.specs.Streaming.{of_push}
use Rattle.vc_message.proofs.SourceLaws.{ok_is_no_error, tells_error, tells_not, tells_ok, tells_then}
use Rattle.vc_message.proofs.skipping.skip_push.Goals as goal

pub returns-in_err-next_object-clause-fault : goal.returns-in_err-next_object-clause-fault
returns-in_err-next_object-clause-fault g c =
    let p = err_from_is_err_and c.from_residual.result c.from_residual.ensures.1 in
    rw (p.1, p.2) (λ before head so. let at = c.objects.invariant.leads before head so in c.in_err-next_object.ensures.fault before (of_push head at.0) at.1)

pub returns-in_default-clause-end : goal.returns-in_default-clause-end
returns-in_default-clause-end g c = λ before head so.
    let at = c.objects.invariant.leads before head so in
    (at.0, (rw c.in_default.is at c.in_ok-next_object.ensures.end) before (of_push head at.0) at.1)

pub objects-preserved : goal.objects-preserved
objects-preserved g c =
    let next = rw c.in-Some.is at c.in_ok-next_object.ensures.object in
    record {
      leads = λ before head so. let at = c.objects.invariant.leads before head so in (carry (stored c.in-Some.field-0.1) at.0, next before (of_push head at.0) at.1 refl);
      few = c.in_ok-next_object.ensures.few;
      failures = tells_not (tells_then c.objects.invariant.failures (λ none. none) c.in_ok-next_object.ensures.failures) ok_is_no_error (λ none. none);
    }

pub objects-preserved-in-Some : goal.objects-preserved-in-Some
objects-preserved-in-Some g c =
    let next = rw c.in-Some.is at c.in_ok-next_object.ensures.object in
    record {
      leads = λ before head so. let at = c.objects.invariant.leads before head so in (carry (stored c.in-Some.field-0.1) at.0, next before (of_push head at.0) at.1 refl);
      few = c.in_ok-next_object.ensures.few;
      failures = tells_not (tells_then c.objects.invariant.failures (λ none. none) c.in_ok-next_object.ensures.failures) ok_is_no_error (λ none. none);
    }

pub objects-smaller : goal.objects-smaller
objects-smaller g c = let more = c.in_ok-next_object.ensures.more in omega (arith, more.0, more.1)

pub objects-smaller-in-Some : goal.objects-smaller-in-Some
objects-smaller-in-Some g c = let more = c.in_ok-next_object.ensures.more in omega (arith, more.0, more.1)

pub returns-in_err-next_object-clause-failures : goal.returns-in_err-next_object-clause-failures
returns-in_err-next_object-clause-failures g c =
    let p = err_from_is_err_and c.from_residual.result c.from_residual.ensures.1 in
    rw (p.1, p.2) (tells_error (tells_then c.objects.invariant.failures (λ none. none) c.in_err-next_object.ensures.failures) (λ is. is) (λ is. is))

pub returns-in_default-clause-failures : goal.returns-in_default-clause-failures
returns-in_default-clause-failures g c = tells_ok (tells_then c.objects.invariant.failures (λ none. none) c.in_ok-next_object.ensures.failures) ok_is_no_error
