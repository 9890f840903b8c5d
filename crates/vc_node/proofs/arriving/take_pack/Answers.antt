use Rattle.std.proofs.Common.{Err, inl, refl, sym, ap, ◌∙◌, true≢false}
use Rattle.std.proofs.lemmas.Result.{err_from_is_err_and}
use Rattle.vc_exchange.proofs.QuarantinedLemmas.{keeps_beside_slot, others_same, others_slot, others_then}
use Rattle.vc_tracking.specs.Moving.{told_in}
use Rattle.vc_files.proofs.FileMapLemmas.{outside_same}
use Rattle.vc_files.proofs.WearLemmas.{writes_both, writes_none, writes_told}
use Rattle.vc_message.specs.AnyMessage.{a_pack as pack_message}
use Rattle.vc_quarantine.proofs.CleanLemmas.{bad_then}
use Rattle.vc_node.proofs.ArrivedLemmas.{left_comes, left_failing, left_then, taken_comes}
use Rattle.vc_node.proofs.ArrivingLemmas.{files_writes, no_device, refusal_no_device, stopped_by}
use Rattle.vc_node.proofs.ExchangingLemmas.{pack_refused, pack_unexpected, same_pack}
use Rattle.vc_node.proofs.KeepingLemmas.{good_same, good_then}
use Rattle.vc_node.proofs.LearningLemmas.{agrees_beside, learns_dropped, learns_none}
use Rattle.vc_node.specs.Arriving.{stopped, whole}
use Rattle.vc_node.specs.Awaited.{awaited_text}
use Rattle.vc_node.specs.declared.clone_fault.CloneFault.TheVariants.{Unexpected}
use Rattle.vc_message.proofs.SourceLaws.{ok_is_no_error, tells_error, tells_not, tells_ok}
use Rattle.vc_node.proofs.LossLemmas.{loss_came, loss_dropped, loss_told, node_is_no_loss}
use Rattle.vc_node.proofs.arriving.take_pack.Goals as goal

-- ---- not awaited
pub returns-in_err-skip_pack-clause-comes : goal.returns-in_err-skip_pack-clause-comes
returns-in_err-skip_pack-clause-comes g c =
    let p = err_from_is_err_and c.from_residual.result c.from_residual.ensures.1 in
    rw (p.1, p.2) (λ before ack so. stopped _ refl (stopped_by before _ c.in_err-skip_pack.field-0.0 (c.in_err-skip_pack.ensures.fault before ack so)) (λ honest. outside_same _ _) refl)

pub returns-in_err-skip_pack-clause-cleared : goal.returns-in_err-skip_pack-clause-cleared
returns-in_err-skip_pack-clause-cleared g c = λ honest up dropped. dropped

pub returns-in_err-skip_pack-clause-beside : goal.returns-in_err-skip_pack-clause-beside
returns-in_err-skip_pack-clause-beside g c = λ honest. others_same _ _ refl

pub returns-in_err-skip_pack-clause-good : goal.returns-in_err-skip_pack-clause-good
returns-in_err-skip_pack-clause-good g c = λ honest. good_same _ _ refl

pub returns-in_err-skip_pack-clause-wear : goal.returns-in_err-skip_pack-clause-wear
returns-in_err-skip_pack-clause-wear g c = writes_none (no_device c.in_err-skip_pack.field-0.0 c.from_residual.result c.from_residual.ensures.1)

pub returns-in_default-clause-comes : goal.returns-in_default-clause-comes
returns-in_default-clause-comes g c = λ before ack so.
    let content = g.F.Files.content c.args.files.now in
    let all = c.in_ok-skip_pack.ensures.end before ack so in
    whole (pack_message (record { ack = ack; objects = all.0 })) all.1 (Err Unexpected) refl (λ honest. pack_refused content c.args.awaited.now _ c.in_default.not-Pack) (λ honest m is. pack_unexpected content m c.args.awaited.now _ is c.in_default.not-Pack)

pub returns-in_default-clause-cleared : goal.returns-in_default-clause-cleared
returns-in_default-clause-cleared g c = λ honest up dropped. dropped

pub returns-in_default-clause-beside : goal.returns-in_default-clause-beside
returns-in_default-clause-beside g c = λ honest. others_same _ _ refl

pub returns-in_default-clause-good : goal.returns-in_default-clause-good
returns-in_default-clause-good g c = λ honest. good_same _ _ refl

pub returns-in_default-clause-wear : goal.returns-in_default-clause-wear
returns-in_default-clause-wear g c = writes_none (λ device. device)

-- ---- taken
pub returns-in-Ok-clause-comes : goal.returns-in-Ok-clause-comes
returns-in-Ok-clause-comes g c = λ before ack so.
    let content = g.F.Files.content in
    let waits = ap awaited_text c.in-Pack.is ∙ same_pack _ _ _ _ (sym c.deref.ensures.value) (sym c.deref-2.ensures.value) in
    taken_comes g.F.Files.honest before _ (content c.args.files.now) (content c.take_awaited.new.files) c.deref.result.now (told_in c.deref-2.result.now) _ waits c.take_awaited.ensures.beside (λ honest. (c.take_awaited.ensures.good honest).bad)
    c.in-Ok.moves.moved c.in-Ok.moves.left _ refl (c.in-Ok.ensures.taken before ack so)

pub returns-in-Ok-clause-cleared : goal.returns-in-Ok-clause-cleared
returns-in-Ok-clause-cleared g c = λ honest up dropped. c.in-Ok.ensures.dropped honest

-- ---- a fault
pub returns-then-is_fault-clause-comes : goal.returns-then-is_fault-clause-comes
returns-then-is_fault-clause-comes g c = λ before ack so.
    let content = g.F.Files.content in
    let waits = ap awaited_text c.in-Pack.is ∙ same_pack _ _ _ _ (sym c.deref.ensures.value) (sym c.deref-2.ensures.value) in
    left_comes g.F.Files.honest before _ (content c.args.files.now) (content c.take_awaited.new.files) c.deref.result.now (told_in c.deref-2.result.now) _ waits c.take_awaited.ensures.beside (λ honest. (c.take_awaited.ensures.good honest).bad)
    c.in-Err.fault _ (sym (ap awaited_text c.in-Pack.is)) (c.in-Err.ensures.left before ack so)

pub returns-then-is_fault-clause-cleared : goal.returns-then-is_fault-clause-cleared
returns-then-is_fault-clause-cleared g c = λ honest up. absurd (true≢false (sym c.if-is_fault.true ∙ c.is_fault.ensures ∙ up))

-- ---- a refusal, behind which the quarantine is emptied
pub returns-in_err-drop_quarantine-in-Err-clause-comes : goal.returns-in_err-drop_quarantine-in-Err-clause-comes
returns-in_err-drop_quarantine-in-Err-clause-comes g c =
    let content = g.F.Files.content in
    let old = content c.args.files.now in
    let mid = content c.take_awaited.new.files in
    let new = content c.drop_quarantine.new.files in
    let waits = ap awaited_text c.in-Pack.is ∙ same_pack _ _ _ _ (sym c.deref.ensures.value) (sym c.deref-2.ensures.value) in
    let outside = c.in_err-drop_quarantine-in-Err.ensures.outside in
    let p = err_from_is_err_and c.from_residual-in_err-drop_quarantine-in-Err.result c.from_residual-in_err-drop_quarantine-in-Err.ensures.1 in
    rw (p.1, p.2) (λ before ack so.
    left_comes g.F.Files.honest before _ old new c.deref.result.now (told_in c.deref-2.result.now) _ waits (λ honest. others_then _ _ _ (c.take_awaited.ensures.beside honest) (others_slot _ _ (outside honest))) (λ honest. bad_then (c.take_awaited.ensures.good honest).bad (c.in_err-drop_quarantine-in-Err.ensures.bad honest))
    _ _ (sym (ap awaited_text c.in-Pack.is)) (left_failing g.F.Files.honest before _ old mid c.deref.result.now (told_in c.deref-2.result.now) c.in-Err.fault new outside c.in_err-drop_quarantine-in-Err.field-0.0 (c.in-Err.ensures.left before ack so)))

pub returns-in_err-drop_quarantine-in-Err-clause-cleared : goal.returns-in_err-drop_quarantine-in-Err-clause-cleared
returns-in_err-drop_quarantine-in-Err-clause-cleared g c = λ honest.
    let p = err_from_is_err_and c.from_residual-in_err-drop_quarantine-in-Err.result c.from_residual-in_err-drop_quarantine-in-Err.ensures.1 in
    rw (p.1, p.2) (λ up. absurd (true≢false up))

pub returns-in_err-drop_quarantine-in-Err-clause-beside : goal.returns-in_err-drop_quarantine-in-Err-clause-beside
returns-in_err-drop_quarantine-in-Err-clause-beside g c = λ honest. others_then _ _ _ (c.take_awaited.ensures.beside honest) (others_slot _ _ (c.in_err-drop_quarantine-in-Err.ensures.outside honest))

pub returns-in_err-drop_quarantine-in-Err-clause-good : goal.returns-in_err-drop_quarantine-in-Err-clause-good
returns-in_err-drop_quarantine-in-Err-clause-good g c = λ honest. good_then (c.take_awaited.ensures.good honest) (record { objects = keeps_beside_slot _ _ (c.in_err-drop_quarantine-in-Err.ensures.outside honest); bad = c.in_err-drop_quarantine-in-Err.ensures.bad honest })

pub returns-in_err-drop_quarantine-in-Err-clause-wear : goal.returns-in_err-drop_quarantine-in-Err-clause-wear
returns-in_err-drop_quarantine-in-Err-clause-wear g c =
    writes_both c.in-Err.ensures.wear (refusal_no_device c.in-Err.fault (sym c.is_fault.ensures ∙ c.if-is_fault.false))
    (files_writes c.in_err-drop_quarantine-in-Err.field-0.0 c.from_residual-in_err-drop_quarantine-in-Err.result c.from_residual-in_err-drop_quarantine-in-Err.ensures.1 c.in_err-drop_quarantine-in-Err.ensures.wear)

pub returns-in_ok-drop_quarantine-in-Err-clause-comes : goal.returns-in_ok-drop_quarantine-in-Err-clause-comes
returns-in_ok-drop_quarantine-in-Err-clause-comes g c = λ before ack so.
    let content = g.F.Files.content in
    let old = content c.args.files.now in
    let mid = content c.take_awaited.new.files in
    let new = content c.drop_quarantine.new.files in
    let waits = ap awaited_text c.in-Pack.is ∙ same_pack _ _ _ _ (sym c.deref.ensures.value) (sym c.deref-2.ensures.value) in
    let outside = c.in_ok-drop_quarantine-in-Err.ensures.outside in
    left_comes g.F.Files.honest before _ old new c.deref.result.now (told_in c.deref-2.result.now) _ waits (λ honest. others_then _ _ _ (c.take_awaited.ensures.beside honest) (others_slot _ _ (outside honest))) (λ honest. bad_then (c.take_awaited.ensures.good honest).bad (c.in_ok-drop_quarantine-in-Err.ensures.bad honest))
    _ _ (sym (ap awaited_text c.in-Pack.is)) (left_then g.F.Files.honest before _ old mid c.deref.result.now (told_in c.deref-2.result.now) c.in-Err.fault new outside (c.in-Err.ensures.left before ack so))

pub returns-in_ok-drop_quarantine-in-Err-clause-cleared : goal.returns-in_ok-drop_quarantine-in-Err-clause-cleared
returns-in_ok-drop_quarantine-in-Err-clause-cleared g c = λ honest up dropped. c.in_ok-drop_quarantine-in-Err.ensures.dropped honest

pub returns-in_ok-drop_quarantine-in-Err-clause-beside : goal.returns-in_ok-drop_quarantine-in-Err-clause-beside
returns-in_ok-drop_quarantine-in-Err-clause-beside g c = λ honest. others_then _ _ _ (c.take_awaited.ensures.beside honest) (others_slot _ _ (c.in_ok-drop_quarantine-in-Err.ensures.outside honest))

pub returns-in_ok-drop_quarantine-in-Err-clause-good : goal.returns-in_ok-drop_quarantine-in-Err-clause-good
returns-in_ok-drop_quarantine-in-Err-clause-good g c = λ honest. good_then (c.take_awaited.ensures.good honest) (record { objects = keeps_beside_slot _ _ (c.in_ok-drop_quarantine-in-Err.ensures.outside honest); bad = c.in_ok-drop_quarantine-in-Err.ensures.bad honest })

pub returns-in_ok-drop_quarantine-in-Err-clause-wear : goal.returns-in_ok-drop_quarantine-in-Err-clause-wear
returns-in_ok-drop_quarantine-in-Err-clause-wear g c =
    let calm = sym c.is_fault.ensures ∙ c.if-is_fault.false in
    writes_both c.in-Err.ensures.wear (refusal_no_device c.in-Err.fault calm)
    (writes_told c.in_ok-drop_quarantine-in-Err.ensures.wear (λ never. absurd (cc never)) (λ device. absurd (refusal_no_device c.in-Err.fault calm device)))

-- ---- the reader's failures
pub returns-in_err-skip_pack-clause-failures : goal.returns-in_err-skip_pack-clause-failures
returns-in_err-skip_pack-clause-failures g c =
    let p = err_from_is_err_and c.from_residual.result c.from_residual.ensures.1 in
    rw (p.1, p.2) (inl (tells_error c.in_err-skip_pack.ensures.failures (loss_told c.in_err-skip_pack.field-0.0) (loss_came c.in_err-skip_pack.field-0.0)))

pub returns-in_default-clause-failures : goal.returns-in_default-clause-failures
returns-in_default-clause-failures g c = inl (tells_not c.in_ok-skip_pack.ensures.failures ok_is_no_error node_is_no_loss)

pub returns-in-Ok-clause-failures : goal.returns-in-Ok-clause-failures
returns-in-Ok-clause-failures g c = inl (tells_ok c.in-Ok.ensures.failures ok_is_no_error)

pub returns-then-is_fault-clause-failures : goal.returns-then-is_fault-clause-failures
returns-then-is_fault-clause-failures g c = inl (tells_error c.in-Err.ensures.failures (λ is. is) (λ is. is))

pub returns-in_err-drop_quarantine-in-Err-clause-failures : goal.returns-in_err-drop_quarantine-in-Err-clause-failures
returns-in_err-drop_quarantine-in-Err-clause-failures g c =
    let p = err_from_is_err_and c.from_residual-in_err-drop_quarantine-in-Err.result c.from_residual-in_err-drop_quarantine-in-Err.ensures.1 in
    rw (p.1, p.2) (loss_dropped c.in-Err.fault c.in_err-drop_quarantine-in-Err.field-0.0 c.in-Err.ensures.failures)

pub returns-in_ok-drop_quarantine-in-Err-clause-failures : goal.returns-in_ok-drop_quarantine-in-Err-clause-failures
returns-in_ok-drop_quarantine-in-Err-clause-failures g c = inl (tells_error c.in-Err.ensures.failures (λ is. is) (λ is. is))

-- ---- what is awaited and learnt
pub returns-in_err-skip_pack-clause-leaves : goal.returns-in_err-skip_pack-clause-leaves
returns-in_err-skip_pack-clause-leaves g c =
    let p = err_from_is_err_and c.from_residual.result c.from_residual.ensures.1 in
    rw (p.1, p.2) (record { awaits = refl; learnt = λ honest. learns_none _ _ _ _ refl (c.requires.agrees honest) })

pub returns-in_default-clause-leaves : goal.returns-in_default-clause-leaves
returns-in_default-clause-leaves g c = record { awaits = refl; learnt = λ honest. learns_none _ _ _ _ refl (c.requires.agrees honest) }

pub returns-in-Ok-clause-leaves : goal.returns-in-Ok-clause-leaves
returns-in-Ok-clause-leaves g c = record { awaits = tt; learnt = c.in-Ok.ensures.learns }

pub returns-then-is_fault-clause-leaves : goal.returns-then-is_fault-clause-leaves
returns-then-is_fault-clause-leaves g c = record { awaits = sym (ap awaited_text c.in-Pack.is); learnt = c.in-Err.ensures.learns }

pub returns-in_err-drop_quarantine-in-Err-clause-leaves : goal.returns-in_err-drop_quarantine-in-Err-clause-leaves
returns-in_err-drop_quarantine-in-Err-clause-leaves g c =
    let p = err_from_is_err_and c.from_residual-in_err-drop_quarantine-in-Err.result c.from_residual-in_err-drop_quarantine-in-Err.ensures.1 in
    rw (p.1, p.2) (record {
      awaits = sym (ap awaited_text c.in-Pack.is);
      learnt = λ honest. record {
        agrees = agrees_beside (g.F.Files.content c.take_awaited.new.files) (g.F.Files.content c.drop_quarantine.new.files) (c.in_err-drop_quarantine-in-Err.ensures.outside honest) c.take_awaited.new.generations (c.in-Err.ensures.learns honest).agrees;
        learns = λ up. absurd (true≢false (sym up));
      };
    })

pub returns-in_ok-drop_quarantine-in-Err-clause-leaves : goal.returns-in_ok-drop_quarantine-in-Err-clause-leaves
returns-in_ok-drop_quarantine-in-Err-clause-leaves g c = record {
  awaits = sym (ap awaited_text c.in-Pack.is);
  learnt = λ honest. learns_dropped _ (g.F.Files.content c.take_awaited.new.files) (g.F.Files.content c.drop_quarantine.new.files) _ _ _ (c.in_ok-drop_quarantine-in-Err.ensures.outside honest) (c.in-Err.ensures.learns honest);
}
