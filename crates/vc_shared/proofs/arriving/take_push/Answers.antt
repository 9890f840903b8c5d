use Rattle.std.proofs.Common.{rules, inl, refl, sym, ◌∙◌, true≢false}
use Rattle.std.proofs.lemmas.Result.{err_from_is_err_and}
use Rattle.vc_files.proofs.FileMapLemmas.{outside_then}
use Rattle.vc_files.proofs.WearLemmas.{writes_both, writes_none, writes_told}
use Rattle.vc_push.specs.Push.{HeadText, with_carried}
use Rattle.vc_push.specs.PushView.{head_text}
use Rattle.vc_quarantine.proofs.CleanLemmas.{bad_then}
use Rattle.vc_quarantine.proofs.KeepingLemmas.{keeps_quarantine}
use Rattle.vc_shared.proofs.ArrivingLemmas.{changes_none, cleared_by, cleared_none, no_device, part_of_stop, refusal_no_device, stopped_by, writes_as}
use Rattle.vc_shared.proofs.HoldingLemmas.{good_same}
use Rattle.vc_shared.proofs.PushingLemmas.{changes_free}
use Rattle.vc_shared.specs.Arriving.{by_node}
use Rattle.vc_shared.specs.Arriving.IsTurnedAway.{busy, stopped}
use Rattle.vc_shared.specs.declared.accept_fault.AcceptFault.TheVariants.{Node}
use Rattle.vc_shared.specs.declared.fault.SharedFault.TheVariants.{Busy}
use Rattle.vc_message.proofs.SourceLaws.{ok_is_no_error, tells_error, tells_not, tells_ok}
use Rattle.vc_shared.proofs.LossLemmas.{loss_came, loss_dropped, loss_told, node_is_no_loss}
use Rattle.vc_shared.proofs.arriving.take_push.Goals as goal

pub returns-in_err-skip_push-clause-refused : goal.returns-in_err-skip_push-clause-refused
returns-in_err-skip_push-clause-refused g c =
    let p = err_from_is_err_and c.from_residual.result c.from_residual.ensures.1 in
    rw (p.1, p.2) (record {
      failures = inl (tells_error c.in_err-skip_push.ensures.failures (loss_told c.in_err-skip_push.field-0.0) (loss_came c.in_err-skip_push.field-0.0));
      why = λ before so. stopped (stopped_by before _ c.in_err-skip_push.field-0.0 (c.in_err-skip_push.ensures.fault before (head_text c.args.head) so));
    })

pub returns-in_err-skip_push-clause-cleared : goal.returns-in_err-skip_push-clause-cleared
returns-in_err-skip_push-clause-cleared g c = λ honest.
    let p = err_from_is_err_and c.from_residual.result c.from_residual.ensures.1 in
    rw (p.1, p.2) (cleared_none _ _ _ (rw c.in_default.is at c.lowest_free.ensures))

pub returns-in_err-skip_push-clause-outside : goal.returns-in_err-skip_push-clause-outside
returns-in_err-skip_push-clause-outside g c = λ honest. changes_none _ _

pub returns-in_err-skip_push-clause-good : goal.returns-in_err-skip_push-clause-good
returns-in_err-skip_push-clause-good g c = λ honest. good_same _ _ refl

pub returns-in_err-skip_push-clause-wear : goal.returns-in_err-skip_push-clause-wear
returns-in_err-skip_push-clause-wear g c = writes_none (no_device c.in_err-skip_push.field-0.0 c.from_residual.result c.from_residual.ensures.1)

pub returns-in_default-clause-refused : goal.returns-in_default-clause-refused
returns-in_default-clause-refused g c = record {
  failures = inl (tells_not c.in_ok-skip_push.ensures.failures ok_is_no_error node_is_no_loss);
  why = λ before so.
      let head : HeadText = head_text c.args.head in
      let all = c.in_ok-skip_push.ensures.end before head so in
      busy (with_carried head all.0) all.1 (rw c.in_default.is at c.lowest_free.ensures) refl;
}

pub returns-in_default-clause-cleared : goal.returns-in_default-clause-cleared
returns-in_default-clause-cleared g c = λ honest. cleared_none _ _ (Node Busy) (rw c.in_default.is at c.lowest_free.ensures)

pub returns-in_default-clause-outside : goal.returns-in_default-clause-outside
returns-in_default-clause-outside g c = λ honest. changes_none _ _

pub returns-in_default-clause-good : goal.returns-in_default-clause-good
returns-in_default-clause-good g c = λ honest. good_same _ _ refl

pub returns-in_default-clause-wear : goal.returns-in_default-clause-wear
returns-in_default-clause-wear g c = writes_none (λ device. device)

pub returns-in-Ok-clause-opened : goal.returns-in-Ok-clause-opened
returns-in-Ok-clause-opened g c = λ before so.
    let a = c.in-Ok.ensures.arrived before so in
    record {
      push = a.push;
      taken = a.taken;
      opens = λ honest. record {
        lowest = c.in-Some.ensures;
        session = c.in-Ok.session;
        fault = a.fault;
        fault_is = a.fault_is honest;
        opened = a.opened;
        is_session = c.in-Ok.ensures.session.0;
        carries = a.carries honest;
        clean = c.in-Ok.ensures.clean honest;
        left = search rules;
      };
    }

pub returns-in-Ok-clause-refused : goal.returns-in-Ok-clause-refused
returns-in-Ok-clause-refused g c = record { failures = inl (tells_ok c.in-Ok.ensures.failures ok_is_no_error); why = tt }

pub returns-in-Ok-clause-outside : goal.returns-in-Ok-clause-outside
returns-in-Ok-clause-outside g c = λ honest. changes_free _ _ _ _ c.in-Some.ensures (c.in-Ok.ensures.outside honest)

pub returns-in-Ok-clause-good : goal.returns-in-Ok-clause-good
returns-in-Ok-clause-good g c = λ honest. record { objects = keeps_quarantine _ _ _ (c.in-Ok.ensures.outside honest); bad = search rules }

pub returns-then-is_fault-clause-refused : goal.returns-then-is_fault-clause-refused
returns-then-is_fault-clause-refused g c = record { failures = inl (tells_error c.in-Err.ensures.failures (λ is. is) (λ is. is)); why = λ before so. stopped (c.in-Err.ensures.stopped before so) }

pub returns-then-is_fault-clause-cleared : goal.returns-then-is_fault-clause-cleared
returns-then-is_fault-clause-cleared g c = λ honest calm. absurd (true≢false (sym (sym (c.is_fault.ensures ∙ calm) ∙ c.if-is_fault.true)))

pub returns-then-is_fault-clause-outside : goal.returns-then-is_fault-clause-outside
returns-then-is_fault-clause-outside g c = λ honest. changes_free _ _ _ _ c.in-Some.ensures (c.in-Err.ensures.outside honest)

pub returns-then-is_fault-clause-good : goal.returns-then-is_fault-clause-good
returns-then-is_fault-clause-good g c = λ honest. record { objects = keeps_quarantine _ _ _ (c.in-Err.ensures.outside honest); bad = search rules }

pub returns-in_err-drop_quarantine-in-Err-clause-refused : goal.returns-in_err-drop_quarantine-in-Err-clause-refused
returns-in_err-drop_quarantine-in-Err-clause-refused g c =
    let p = err_from_is_err_and c.from_residual-in_err-drop_quarantine-in-Err.result c.from_residual-in_err-drop_quarantine-in-Err.ensures.1 in
    rw (p.1, p.2) (record {
      failures = loss_dropped c.in-Err.fault c.in_err-drop_quarantine-in-Err.field-0.0 c.in-Err.ensures.failures;
      why = λ before so. stopped (by_node (part_of_stop before _ c.in-Err.fault (c.in-Err.ensures.stopped before so)) c.in_err-drop_quarantine-in-Err.field-0.0 refl);
    })

pub returns-in_err-drop_quarantine-in-Err-clause-cleared : goal.returns-in_err-drop_quarantine-in-Err-clause-cleared
returns-in_err-drop_quarantine-in-Err-clause-cleared g c = λ honest.
    let p = err_from_is_err_and c.from_residual-in_err-drop_quarantine-in-Err.result c.from_residual-in_err-drop_quarantine-in-Err.ensures.1 in
    rw (p.1, p.2) (λ calm. absurd (true≢false calm))

pub returns-in_err-drop_quarantine-in-Err-clause-outside : goal.returns-in_err-drop_quarantine-in-Err-clause-outside
returns-in_err-drop_quarantine-in-Err-clause-outside g c = λ honest. changes_free _ _ _ _ c.in-Some.ensures (outside_then (c.in-Err.ensures.outside honest) (c.in_err-drop_quarantine-in-Err.ensures.outside honest))

pub returns-in_err-drop_quarantine-in-Err-clause-good : goal.returns-in_err-drop_quarantine-in-Err-clause-good
returns-in_err-drop_quarantine-in-Err-clause-good g c = λ honest. record { objects = keeps_quarantine _ _ _ (outside_then (c.in-Err.ensures.outside honest) (c.in_err-drop_quarantine-in-Err.ensures.outside honest)); bad = bad_then (c.in-Err.ensures.bad honest) (c.in_err-drop_quarantine-in-Err.ensures.bad honest) }

pub returns-in_err-drop_quarantine-in-Err-clause-wear : goal.returns-in_err-drop_quarantine-in-Err-clause-wear
returns-in_err-drop_quarantine-in-Err-clause-wear g c =
    writes_both c.in-Err.ensures.wear (refusal_no_device c.in-Err.fault (sym c.is_fault.ensures ∙ c.if-is_fault.false))
    (writes_as c.in_err-drop_quarantine-in-Err.field-0.0 c.from_residual-in_err-drop_quarantine-in-Err.result c.from_residual-in_err-drop_quarantine-in-Err.ensures.1 c.in_err-drop_quarantine-in-Err.ensures.wear)

pub returns-in_ok-drop_quarantine-in-Err-clause-refused : goal.returns-in_ok-drop_quarantine-in-Err-clause-refused
returns-in_ok-drop_quarantine-in-Err-clause-refused g c = record { failures = inl (tells_error c.in-Err.ensures.failures (λ is. is) (λ is. is)); why = λ before so. stopped (c.in-Err.ensures.stopped before so) }

pub returns-in_ok-drop_quarantine-in-Err-clause-cleared : goal.returns-in_ok-drop_quarantine-in-Err-clause-cleared
returns-in_ok-drop_quarantine-in-Err-clause-cleared g c = λ honest. cleared_by _ _ _ c.in-Some.slot c.in-Some.ensures (c.in_ok-drop_quarantine-in-Err.ensures.dropped honest)

pub returns-in_ok-drop_quarantine-in-Err-clause-outside : goal.returns-in_ok-drop_quarantine-in-Err-clause-outside
returns-in_ok-drop_quarantine-in-Err-clause-outside g c = λ honest. changes_free _ _ _ _ c.in-Some.ensures (outside_then (c.in-Err.ensures.outside honest) (c.in_ok-drop_quarantine-in-Err.ensures.outside honest))

pub returns-in_ok-drop_quarantine-in-Err-clause-good : goal.returns-in_ok-drop_quarantine-in-Err-clause-good
returns-in_ok-drop_quarantine-in-Err-clause-good g c = λ honest. record { objects = keeps_quarantine _ _ _ (outside_then (c.in-Err.ensures.outside honest) (c.in_ok-drop_quarantine-in-Err.ensures.outside honest)); bad = bad_then (c.in-Err.ensures.bad honest) (c.in_ok-drop_quarantine-in-Err.ensures.bad honest) }

pub returns-in_ok-drop_quarantine-in-Err-clause-wear : goal.returns-in_ok-drop_quarantine-in-Err-clause-wear
returns-in_ok-drop_quarantine-in-Err-clause-wear g c =
    let calm = sym c.is_fault.ensures ∙ c.if-is_fault.false in
    writes_both c.in-Err.ensures.wear (refusal_no_device c.in-Err.fault calm)
    (writes_told c.in_ok-drop_quarantine-in-Err.ensures.wear (λ never. absurd (cc never)) (λ device. absurd (refusal_no_device c.in-Err.fault calm device)))
