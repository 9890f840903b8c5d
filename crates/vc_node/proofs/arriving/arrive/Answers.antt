use Rattle.std.proofs.Common.{arith, rules, ◌≡◌, ℕ, [], None, Ok, IsSome, false, true, refl, sym, ◌∙◌, subst}
use Rattle.std.proofs.lemmas.Result.{err_from_is_err_and}
use Rattle.vc_files.proofs.FileMapLemmas.{outside_then}
use Rattle.vc_files.proofs.WearLemmas.{writes_both, writes_told}
use Rattle.vc_files.specs.FileMap.{SameOutside}
use Rattle.vc_fetch.specs.Pack.{is_object}
use Rattle.vc_message.specs.Streaming.{of_pack}
use Rattle.vc_pkt.specs.Carried.{with_object}
use Rattle.vc_pkt.specs.StreamObjectView.{stored}
use Rattle.vc_pkt.specs.declared.fault.PktFault.TheVariants.{BadRecord}
use Rattle.vc_quarantine.proofs.ArrivalLemmas.{brought_carries}
use Rattle.vc_quarantine.proofs.CleanLemmas.{bad_then, clean_after}
use Rattle.vc_quarantine.specs.Arrival.{HasArrived}
use Rattle.vc_push_rules.specs.Carrying.{Carries, objects_of_push}
use Rattle.vc_push_rules.specs.Quarantine.{quarantine_folder}
use Rattle.vc_message.proofs.ComingLaws.{part_taken}
use Rattle.vc_node.proofs.ArrivingLemmas.{brought_object, files_writes, no_device, none_there, part_with, some_there, stopped_by}
use Rattle.vc_node.specs.Arriving.{by_bytes, by_node}
use Rattle.vc_message.proofs.SourceLaws.{ok_is_no_error, tells_error, tells_none, tells_not, tells_ok, tells_then}
use Rattle.vc_node.proofs.LossLemmas.{loss_came, loss_told, node_is_no_loss}
use Rattle.vc_node.proofs.arriving.arrive.Goals as goal

pub returns-in_err-arriving-clause-stopped : goal.returns-in_err-arriving-clause-stopped
returns-in_err-arriving-clause-stopped g c =
    let p = err_from_is_err_and c.from_residual.result c.from_residual.ensures.1 in
    rw (p.1, p.2) (λ before ack so. by_node (part_taken _ _ _ _ _ so) c.in_err-arriving.field-0.0 refl)

pub returns-in_err-arriving-clause-wear : goal.returns-in_err-arriving-clause-wear
returns-in_err-arriving-clause-wear g c = files_writes c.in_err-arriving.field-0.0 c.from_residual.result c.from_residual.ensures.1 c.in_err-arriving.ensures.wear

pub objects-init : goal.objects-init
objects-init g c =
    let a = c.in_ok-arriving.arriving in
    record {
      leads = λ before ack so. ([], so, λ honest. subst (λ (k : ℕ). HasArrived (g.F.Files.content c.begin.new.files) k a.names.keys a.fault (Ok [])) (sym c.in_ok-arriving.ensures.slot) (c.in_ok-arriving.ensures.none honest));
      none = c.in_ok-arriving.ensures.calm;
      few = c.requires.few;
      slot = c.in_ok-arriving.ensures.slot;
      outside = λ honest. c.in_ok-arriving.ensures.outside honest;
      bad = λ honest. c.in_ok-arriving.ensures.bad honest;
      clean = λ honest. c.in_ok-arriving.ensures.clean honest;
      wear = writes_told c.in_ok-arriving.ensures.wear (λ never. absurd (cc never)) (λ never. absurd never);
      failures = tells_none (λ none. none);
    }

pub returns-in_err-found-clause-stopped : goal.returns-in_err-found-clause-stopped
returns-in_err-found-clause-stopped g c =
    let p = err_from_is_err_and c.from_residual-in_err-found.result c.from_residual-in_err-found.ensures.1 in
    rw (p.1, p.2) (λ before ack so.
    let at = c.objects.invariant.leads before ack so in
    stopped_by before _ c.in_err-found.field-0.0 (c.in_err-found.ensures.fault before (of_pack ack at.0) at.1))

pub returns-in_err-found-clause-wear : goal.returns-in_err-found-clause-wear
returns-in_err-found-clause-wear g c =
    writes_told c.objects.invariant.wear (λ never. absurd never) (no_device c.in_err-found.field-0.0 c.from_residual-in_err-found.result c.from_residual-in_err-found.ensures.1)

pub returns-in_default-clause-arrived : goal.returns-in_default-clause-arrived
returns-in_default-clause-arrived g c = λ before ack so.
    let content = g.F.Files.content c.objects.files in
    let a = c.objects.arriving in
    let at = c.objects.invariant.leads before ack so in
    let carries : g.F.Files.honest → Carries content a.slot a.names.keys (objects_of_push (Ok at.0)) = λ honest. brought_carries content a.slot a.names.keys a.fault (Ok at.0) (at.2 honest) in
    record {
      pack = record { ack = ack; objects = at.0 };
      taken = (rw c.in_default.is at c.in_ok-found.ensures.end) before (of_pack ack at.0) at.1;
      holds = λ honest. record {
        carries = subst (λ (k : ℕ). Carries content k a.names.keys (objects_of_push (Ok at.0))) c.objects.invariant.slot (carries honest);
        clean = c.objects.invariant.clean honest;
      };
    }

pub returns-in_err-take-clause-stopped : goal.returns-in_err-take-clause-stopped
returns-in_err-take-clause-stopped g c =
    let p = err_from_is_err_and c.from_residual-in_err-take.result c.from_residual-in_err-take.ensures.1 in
    let next = rw c.in-Some.is at c.in_ok-found.ensures.object in
    let other = rw c.in-Some.is at c.in_ok-found.ensures.other in
    rw (p.1, p.2) (λ before ack so.
    let at = c.objects.invariant.leads before ack so in
    by_node (part_with before _ _ _ _ ack at.0 (stored c.in-Some.found.1) (next before (of_pack ack at.0) at.1) (other before (of_pack ack at.0) at.1)) c.in_err-take.field-0.0 refl)

pub returns-in_err-take-clause-bad : goal.returns-in_err-take-clause-bad
returns-in_err-take-clause-bad g c = λ honest. bad_then (c.objects.invariant.bad honest) (c.in_err-take.ensures.bad honest)

pub returns-in_err-take-clause-wear : goal.returns-in_err-take-clause-wear
returns-in_err-take-clause-wear g c =
    writes_both c.objects.invariant.wear (λ never. never) (files_writes c.in_err-take.field-0.0 c.from_residual-in_err-take.result c.from_residual-in_err-take.ensures.1 c.in_err-take.ensures.wear)

pub objects-smaller : goal.objects-smaller
objects-smaller g c = let more = c.in_ok-found.ensures.more in omega (arith, more.0, more.1)

pub returns-in_err-found-clause-bad : goal.returns-in_err-found-clause-bad
returns-in_err-found-clause-bad g c = λ honest. c.objects.invariant.bad honest

pub returns-in_default-clause-bad : goal.returns-in_default-clause-bad
returns-in_default-clause-bad g c = λ honest. c.objects.invariant.bad honest

pub returns-in_default-clause-wear : goal.returns-in_default-clause-wear
returns-in_default-clause-wear g c = writes_told c.objects.invariant.wear (λ never. absurd never) (λ never. absurd never)

pub objects-preserved : goal.objects-preserved
objects-preserved g c =
    let content = g.F.Files.content in
    let o = stored c.in-Some.found.1 in
    let a = c.take.new.self in
    let next = rw c.in-Some.is at c.in_ok-found.ensures.object in
    let none : a.fault ≡ None = search rules in
    let good : is_object o ≡ true = none_there a.fault none (c.in_ok-take.ensures.good c.objects.invariant.none) in
    record {
      leads = λ before ack so.
          let at = c.objects.invariant.leads before ack so in (
            with_object o at.0,
            next before (of_pack ack at.0) at.1 good,
            λ honest. brought_object _ _ _ a.fault at.0 o good (c.in_ok-take.ensures.brought honest (Ok at.0) (at.2 honest)),
          );
      none = none;
      few = c.in_ok-found.ensures.few;
      slot = c.in_ok-take.ensures.slot ∙ c.objects.invariant.slot;
      outside = λ honest. outside_then (c.objects.invariant.outside honest)
          (subst (λ (k : ℕ). SameOutside (quarantine_folder k) (content c.objects.files) (content c.take.new.files)) c.objects.invariant.slot (c.in_ok-take.ensures.outside honest));
      bad = λ honest. bad_then (c.objects.invariant.bad honest) (c.in_ok-take.ensures.bad honest);
      clean = λ honest. clean_after _ _ 0 (omega arith) (c.in_ok-take.ensures.bad honest) (c.objects.invariant.clean honest);
      wear = writes_both c.objects.invariant.wear (λ never. never) (writes_told c.in_ok-take.ensures.wear (λ never. absurd (cc never)) (λ never. absurd never));
      failures = tells_not (tells_then c.objects.invariant.failures (λ none. none) c.in_ok-found.ensures.failures) ok_is_no_error (λ none. none);
    }

pub returns-then-is_some-clause-stopped : goal.returns-then-is_some-clause-stopped
returns-then-is_some-clause-stopped g c = λ before ack so.
    let o = stored c.in-Some.found.1 in
    let a = c.take.new.self in
    let other = rw c.in-Some.is at c.in_ok-found.ensures.other in
    let at = c.objects.invariant.leads before ack so in
    let some : IsSome a.fault = search rules in
    let wrong : is_object o ≡ false = some_there a.fault some (c.in_ok-take.ensures.wrong c.objects.invariant.none) in
    by_bytes (BadRecord c.in-Some.found.0) (other before (of_pack ack at.0) at.1 wrong) refl

pub returns-then-is_some-clause-outside : goal.returns-then-is_some-clause-outside
returns-then-is_some-clause-outside g c = λ honest.
    let content = g.F.Files.content in
    outside_then (c.objects.invariant.outside honest)
    (subst (λ (k : ℕ). SameOutside (quarantine_folder k) (content c.objects.files) (content c.take.new.files)) c.objects.invariant.slot (c.in_ok-take.ensures.outside honest))

pub returns-in_err-take-clause-outside : goal.returns-in_err-take-clause-outside
returns-in_err-take-clause-outside g c = λ honest.
    let content = g.F.Files.content in
    outside_then (c.objects.invariant.outside honest)
    (subst (λ (k : ℕ). SameOutside (quarantine_folder k) (content c.objects.files) (content c.take.new.files)) c.objects.invariant.slot (c.in_err-take.ensures.outside honest))

pub returns-then-is_some-clause-bad : goal.returns-then-is_some-clause-bad
returns-then-is_some-clause-bad g c = λ honest. bad_then (c.objects.invariant.bad honest) (c.in_ok-take.ensures.bad honest)

pub returns-then-is_some-clause-wear : goal.returns-then-is_some-clause-wear
returns-then-is_some-clause-wear g c = writes_both c.objects.invariant.wear (λ never. never) (writes_told c.in_ok-take.ensures.wear (λ never. absurd (cc never)) (λ never. absurd never))

pub returns-in_err-arriving-clause-failures : goal.returns-in_err-arriving-clause-failures
returns-in_err-arriving-clause-failures g c =
    let p = err_from_is_err_and c.from_residual.result c.from_residual.ensures.1 in
    rw (p.1, p.2) (tells_none node_is_no_loss)

pub returns-in_err-found-clause-failures : goal.returns-in_err-found-clause-failures
returns-in_err-found-clause-failures g c =
    let p = err_from_is_err_and c.from_residual-in_err-found.result c.from_residual-in_err-found.ensures.1 in
    rw (p.1, p.2) (tells_error (tells_then c.objects.invariant.failures (λ none. none) c.in_err-found.ensures.failures) (loss_told c.in_err-found.field-0.0) (loss_came c.in_err-found.field-0.0))

pub returns-in_default-clause-failures : goal.returns-in_default-clause-failures
returns-in_default-clause-failures g c = tells_ok (tells_then c.objects.invariant.failures (λ none. none) c.in_ok-found.ensures.failures) ok_is_no_error

pub returns-in_err-take-clause-failures : goal.returns-in_err-take-clause-failures
returns-in_err-take-clause-failures g c =
    let p = err_from_is_err_and c.from_residual-in_err-take.result c.from_residual-in_err-take.ensures.1 in
    rw (p.1, p.2) (tells_not (tells_then c.objects.invariant.failures (λ none. none) c.in_ok-found.ensures.failures) ok_is_no_error node_is_no_loss)

pub returns-then-is_some-clause-failures : goal.returns-then-is_some-clause-failures
returns-then-is_some-clause-failures g c = tells_not (tells_then c.objects.invariant.failures (λ none. none) c.in_ok-found.ensures.failures) ok_is_no_error node_is_no_loss
