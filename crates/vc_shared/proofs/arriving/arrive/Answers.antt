use Rattle.std.proofs.Common.{arith, ◌<◌, ◌^◌, ℕ, [], Ok, refl, sym, ◌∙◌, subst}
use Rattle.std.proofs.lemmas.Result.{err_from_is_err_and}
use Rattle.vc_files.proofs.FileMapLemmas.{outside_then}
use Rattle.vc_files.proofs.WearLemmas.{writes_both, writes_told}
use Rattle.vc_files.specs.FileMap.{SameOutside}
use Rattle.vc_files.specs.declared.faults.Fault.TheVariants.{Memory}
use Rattle.vc_message.specs.Streaming.{of_push}
use Rattle.vc_pkt.specs.StreamObjectView.{stored}
use Rattle.vc_push.specs.Push.{HeadText, carry, with_carried}
use Rattle.vc_push.specs.PushView.{head_text}
use Rattle.vc_quarantine.proofs.CleanLemmas.{bad_then, clean_after}
use Rattle.vc_quarantine.specs.Arrival.{HasArrived}
use Rattle.vc_push_rules.specs.Carrying.{Carries, objects_of_push}
use Rattle.vc_push_rules.specs.Quarantine.{quarantine_folder}
use Rattle.vc_push_rules.specs.Steps.{IsOpened}
use Rattle.vc_message.proofs.ComingLaws.{part_taken}
use Rattle.vc_shared.proofs.ArrivingLemmas.{no_device, stopped_by, writes_as}
use Rattle.vc_shared.specs.Arriving.{by_node}
use Rattle.vc_message.proofs.SourceLaws.{ok_is_no_error, tells_error, tells_none, tells_not, tells_ok, tells_then}
use Rattle.vc_shared.proofs.LossLemmas.{loss_came, loss_told, node_is_no_loss}
use Rattle.vc_shared.proofs.arriving.arrive.Goals as goal

pub returns-in_err-arriving-clause-stopped : goal.returns-in_err-arriving-clause-stopped
returns-in_err-arriving-clause-stopped g c =
    let p = err_from_is_err_and c.from_residual.result c.from_residual.ensures.1 in
    rw (p.1, p.2) (λ before so. by_node (part_taken _ _ _ _ _ so) c.in_err-arriving.field-0.0 refl)

pub returns-in_err-arriving-clause-wear : goal.returns-in_err-arriving-clause-wear
returns-in_err-arriving-clause-wear g c = writes_as c.in_err-arriving.field-0.0 c.from_residual.result c.from_residual.ensures.1 c.in_err-arriving.ensures.wear

pub objects-init : goal.objects-init
objects-init g c =
    let a = c.in_ok-arriving.arriving in
    record {
      leads = λ before so. (Ok [], so, λ honest. subst (λ (k : ℕ). HasArrived (g.F.Files.content c.begin.new.files) k a.names.keys a.fault (Ok [])) (sym c.in_ok-arriving.ensures.slot) (c.in_ok-arriving.ensures.none honest));
      few = c.requires.few;
      slot = c.in_ok-arriving.ensures.slot;
      outside = λ honest. c.in_ok-arriving.ensures.outside honest;
      bad = λ honest. c.in_ok-arriving.ensures.bad honest;
      clean = λ honest. c.in_ok-arriving.ensures.clean honest;
      wear = writes_told c.in_ok-arriving.ensures.wear (λ never. absurd (cc never)) (λ never. absurd never);
      failures = tells_none (λ none. none);
    }

pub returns-in_err-found-clause-stopped : goal.returns-in_err-found-clause-stopped
returns-in_err-found-clause-stopped g c =
    let p = err_from_is_err_and c.from_residual-in_err-found.result c.from_residual-in_err-found.ensures.1 in
    rw (p.1, p.2) (λ before so.
    let at = c.objects.invariant.leads before so in
    stopped_by before _ c.in_err-found.field-0.0 (c.in_err-found.ensures.fault before (of_push (head_text c.args.head) at.0) at.1))

pub returns-in_err-found-clause-wear : goal.returns-in_err-found-clause-wear
returns-in_err-found-clause-wear g c =
    writes_told c.objects.invariant.wear (λ never. absurd never) (no_device c.in_err-found.field-0.0 c.from_residual-in_err-found.result c.from_residual-in_err-found.ensures.1)

pub objects-preserved : goal.objects-preserved
objects-preserved g c =
    let next = rw c.in-Some.is at c.in_ok-found.ensures.object in
    let content = g.F.Files.content in
    let slot = c.args.slot in
    let small : slot < 2 ^ 64 = omega (arith, c.ranges.slot.fits) in
    record {
      leads = λ before so.
          let at = c.objects.invariant.leads before so in
          (carry (stored c.in-Some.found.1) at.0, next before (of_push (head_text c.args.head) at.0) at.1 refl, λ honest. c.in_ok-take.ensures.brought honest at.0 (at.2 honest));
      few = c.in_ok-found.ensures.few;
      slot = c.in_ok-take.ensures.slot ∙ c.objects.invariant.slot;
      outside = λ honest. outside_then (c.objects.invariant.outside honest)
          (subst (λ (k : ℕ). SameOutside (quarantine_folder k) (content c.objects.files) (content c.take.new.files)) c.objects.invariant.slot (c.in_ok-take.ensures.outside honest));
      bad = λ honest. bad_then (c.objects.invariant.bad honest) (c.in_ok-take.ensures.bad honest);
      clean = λ honest. clean_after _ _ slot small (c.in_ok-take.ensures.bad honest) (c.objects.invariant.clean honest);
      wear = writes_both c.objects.invariant.wear (λ never. never) (writes_told c.in_ok-take.ensures.wear (λ never. absurd (cc never)) (λ never. absurd never));
      failures = tells_not (tells_then c.objects.invariant.failures (λ none. none) c.in_ok-found.ensures.failures) ok_is_no_error (λ none. none);
    }

pub objects-smaller : goal.objects-smaller
objects-smaller g c = let more = c.in_ok-found.ensures.more in omega (arith, more.0, more.1)

pub returns-in_err-session-clause-stopped : goal.returns-in_err-session-clause-stopped
returns-in_err-session-clause-stopped g c =
    let p = err_from_is_err_and c.from_residual-in_err-session.result c.from_residual-in_err-session.ensures.1 in
    rw (p.1, p.2) (λ before so.
    let at = c.objects.invariant.leads before so in
    let all = (rw c.in_default.is at c.in_ok-found.ensures.end) before (of_push (head_text c.args.head) at.0) at.1 in
    by_node (all.0, all.1) Memory refl)

pub returns-in_default-clause-arrived : goal.returns-in_default-clause-arrived
returns-in_default-clause-arrived g c = λ before so.
    let head : HeadText = head_text c.args.head in
    let content = g.F.Files.content c.objects.files in
    let s = c.in_ok-session.session in
    let at = c.objects.invariant.leads before so in
    let all = (rw c.in_default.is at c.in_ok-found.ensures.end) before (of_push head at.0) at.1 in
    record {
      push = with_carried head at.0;
      taken = all;
      fault = c.objects.arriving.fault;
      fault_is = λ honest. c.arrived.ensures.fault content at.0 (at.2 honest);
      opened = subst (λ (k : ℕ). IsOpened k c.objects.arriving.fault head.atomic head.commands s) c.objects.invariant.slot c.in_ok-session.ensures.opened;
      carries = λ honest. subst (λ (k : ℕ). Carries content k s.names (objects_of_push at.0)) c.objects.invariant.slot (c.in_ok-session.ensures.carried content at.0 (at.2 honest));
    }

pub returns-in_err-take-clause-stopped : goal.returns-in_err-take-clause-stopped
returns-in_err-take-clause-stopped g c =
    let p = err_from_is_err_and c.from_residual-in_err-take.result c.from_residual-in_err-take.ensures.1 in
    let next = rw c.in-Some.is at c.in_ok-found.ensures.object in
    rw (p.1, p.2) (λ before so.
    let at = c.objects.invariant.leads before so in
    by_node (part_taken _ _ _ _ _ (next before (of_push (head_text c.args.head) at.0) at.1 refl)) c.in_err-take.field-0.0 refl)

pub returns-in_err-take-clause-bad : goal.returns-in_err-take-clause-bad
returns-in_err-take-clause-bad g c = λ honest. bad_then (c.objects.invariant.bad honest) (c.in_err-take.ensures.bad honest)

pub returns-in_err-take-clause-wear : goal.returns-in_err-take-clause-wear
returns-in_err-take-clause-wear g c =
    writes_both c.objects.invariant.wear (λ never. never) (writes_as c.in_err-take.field-0.0 c.from_residual-in_err-take.result c.from_residual-in_err-take.ensures.1 c.in_err-take.ensures.wear)

pub returns-in_err-arriving-clause-failures : goal.returns-in_err-arriving-clause-failures
returns-in_err-arriving-clause-failures g c =
    let p = err_from_is_err_and c.from_residual.result c.from_residual.ensures.1 in
    rw (p.1, p.2) (tells_none node_is_no_loss)

pub returns-in_err-found-clause-failures : goal.returns-in_err-found-clause-failures
returns-in_err-found-clause-failures g c =
    let p = err_from_is_err_and c.from_residual-in_err-found.result c.from_residual-in_err-found.ensures.1 in
    rw (p.1, p.2) (tells_error (tells_then c.objects.invariant.failures (λ none. none) c.in_err-found.ensures.failures) (loss_told c.in_err-found.field-0.0) (loss_came c.in_err-found.field-0.0))

pub returns-in_err-session-clause-failures : goal.returns-in_err-session-clause-failures
returns-in_err-session-clause-failures g c =
    let p = err_from_is_err_and c.from_residual-in_err-session.result c.from_residual-in_err-session.ensures.1 in
    rw (p.1, p.2) (tells_not (tells_then c.objects.invariant.failures (λ none. none) c.in_ok-found.ensures.failures) ok_is_no_error node_is_no_loss)

pub returns-in_default-clause-failures : goal.returns-in_default-clause-failures
returns-in_default-clause-failures g c = tells_ok (tells_then c.objects.invariant.failures (λ none. none) c.in_ok-found.ensures.failures) ok_is_no_error

pub returns-in_err-take-clause-failures : goal.returns-in_err-take-clause-failures
returns-in_err-take-clause-failures g c =
    let p = err_from_is_err_and c.from_residual-in_err-take.result c.from_residual-in_err-take.ensures.1 in
    rw (p.1, p.2) (tells_not (tells_then c.objects.invariant.failures (λ none. none) c.in_ok-found.ensures.failures) ok_is_no_error node_is_no_loss)
