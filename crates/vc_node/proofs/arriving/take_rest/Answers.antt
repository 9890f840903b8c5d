use Rattle.std.proofs.Common.{Ok, Err, inl, refl}
use Rattle.std.proofs.lemmas.Result.{err_from_is_err_and}
use Rattle.vc_exchange.proofs.QuarantinedLemmas.{others_same}
use Rattle.vc_files.proofs.FileMapLemmas.{outside_same}
use Rattle.vc_files.proofs.WearLemmas.{writes_none}
use Rattle.vc_message.specs.AnyMessage.{a_push}
use Rattle.vc_message.specs.AnyView.{message_text}
use Rattle.vc_push.specs.Push.{HeadText, PushText, with_carried}
use Rattle.vc_push.specs.PushView.{head_text}
use Rattle.vc_node.proofs.ArrivedLemmas.{dropped_beside, message_writes, others_beside, push_refused}
use Rattle.vc_node.proofs.ArrivingLemmas.{no_device, stopped_by}
use Rattle.vc_node.proofs.ExchangingLemmas.{other_unexpected}
use Rattle.vc_node.proofs.KeepingLemmas.{good_same}
use Rattle.vc_node.proofs.LearningLemmas.{learns_none}
use Rattle.vc_node.specs.Arriving.{stopped, whole}
use Rattle.vc_node.specs.Awaited.{awaited_text}
use Rattle.vc_node.specs.declared.clone_fault.CloneFault.TheVariants.{Unexpected}
use Rattle.vc_message.proofs.SourceLaws.{ok_is_no_error, tells_error, tells_none, tells_not}
use Rattle.vc_node.proofs.LossLemmas.{loss_came, loss_told, node_is_no_loss}
use Rattle.vc_node.proofs.arriving.take_rest.Goals as goal

-- ---- a whole message
pub returns-in_err-received-in-Message-clause-comes : goal.returns-in_err-received-in-Message-clause-comes
returns-in_err-received-in-Message-clause-comes g c =
    let p = err_from_is_err_and c.from_residual.result c.from_residual.ensures.1 in
    rw (p.1, p.2) (λ before so. whole (message_text c.in-Message.message) (rw c.in-Message.is at so) (Err c.in_err-received-in-Message.field-0.0) refl c.in_err-received-in-Message.ensures.refused (rw c.in_err-received-in-Message.was at c.take.ensures.answers))

pub returns-in_err-received-in-Message-clause-cleared : goal.returns-in_err-received-in-Message-clause-cleared
returns-in_err-received-in-Message-clause-cleared g c = λ honest up. dropped_beside _ _ (c.take.ensures.beside honest)

pub returns-in_err-received-in-Message-clause-beside : goal.returns-in_err-received-in-Message-clause-beside
returns-in_err-received-in-Message-clause-beside g c = λ honest. others_beside _ _ (c.take.ensures.beside honest)

pub returns-in_err-received-in-Message-clause-wear : goal.returns-in_err-received-in-Message-clause-wear
returns-in_err-received-in-Message-clause-wear g c = message_writes c.in_err-received-in-Message.field-0.0 c.from_residual.result c.from_residual.ensures.1 (rw c.in_err-received-in-Message.was at c.take.ensures.wear)

pub returns-in-Message-clause-comes : goal.returns-in-Message-clause-comes
returns-in-Message-clause-comes g c = λ before so.
    whole (message_text c.in-Message.message) (rw c.in-Message.is at so) (Ok c.in_ok-received-in-Message.received) refl (λ honest. tt) (rw c.in_ok-received-in-Message.was at c.take.ensures.answers)

pub returns-in-Message-clause-cleared : goal.returns-in-Message-clause-cleared
returns-in-Message-clause-cleared g c = λ honest up. dropped_beside _ _ (c.take.ensures.beside honest)

pub returns-in-Message-clause-beside : goal.returns-in-Message-clause-beside
returns-in-Message-clause-beside g c = λ honest. others_beside _ _ (c.take.ensures.beside honest)

-- ---- a push
pub returns-in_err-skip_push-in-Push-clause-comes : goal.returns-in_err-skip_push-in-Push-clause-comes
returns-in_err-skip_push-in-Push-clause-comes g c =
    let p = err_from_is_err_and c.from_residual-in_err-skip_push-in-Push.result c.from_residual-in_err-skip_push-in-Push.ensures.1 in
    rw (p.1, p.2) (λ before so. stopped _ refl (stopped_by before _ c.in_err-skip_push-in-Push.field-0.0 (c.in_err-skip_push-in-Push.ensures.fault before (head_text c.in-Push.field-0) (rw c.in-Push.is at so))) (λ honest. outside_same _ _) refl)

pub returns-in_err-skip_push-in-Push-clause-cleared : goal.returns-in_err-skip_push-in-Push-clause-cleared
returns-in_err-skip_push-in-Push-clause-cleared g c = λ honest up dropped. dropped

pub returns-in_err-skip_push-in-Push-clause-beside : goal.returns-in_err-skip_push-in-Push-clause-beside
returns-in_err-skip_push-in-Push-clause-beside g c = λ honest. others_same _ _ refl

pub returns-in_err-skip_push-in-Push-clause-good : goal.returns-in_err-skip_push-in-Push-clause-good
returns-in_err-skip_push-in-Push-clause-good g c = λ honest. good_same _ _ refl

pub returns-in_err-skip_push-in-Push-clause-wear : goal.returns-in_err-skip_push-in-Push-clause-wear
returns-in_err-skip_push-in-Push-clause-wear g c = writes_none (no_device c.in_err-skip_push-in-Push.field-0.0 c.from_residual-in_err-skip_push-in-Push.result c.from_residual-in_err-skip_push-in-Push.ensures.1)

pub returns-in-Push-clause-comes : goal.returns-in-Push-clause-comes
returns-in-Push-clause-comes g c = λ before so.
    let content = g.F.Files.content c.args.files.now in
    let waits = awaited_text c.args.awaited.now in
    let head : HeadText = head_text c.in-Push.field-0 in
    let all = c.in_ok-skip_push-in-Push.ensures.end before head (rw c.in-Push.is at so) in
    let push : PushText = with_carried head all.0 in
    whole (a_push push) all.1 (Err Unexpected) refl (λ honest. push_refused content waits push) (λ honest m is. other_unexpected content waits m (a_push push) tt is)

pub returns-in-Push-clause-cleared : goal.returns-in-Push-clause-cleared
returns-in-Push-clause-cleared g c = λ honest up dropped. dropped

pub returns-in-Push-clause-beside : goal.returns-in-Push-clause-beside
returns-in-Push-clause-beside g c = λ honest. others_same _ _ refl

pub returns-in-Push-clause-good : goal.returns-in-Push-clause-good
returns-in-Push-clause-good g c = λ honest. good_same _ _ refl

pub returns-in-Push-clause-wear : goal.returns-in-Push-clause-wear
returns-in-Push-clause-wear g c = writes_none (λ device. device)

-- ---- a pack
pub returns-clause-comes : goal.returns-clause-comes
returns-clause-comes g c = λ before so. c.take_pack.ensures.comes before c.in-Pack.field-0 (rw c.in-Pack.is at so)

-- ---- the reader's failures
pub returns-in_err-received-in-Message-clause-failures : goal.returns-in_err-received-in-Message-clause-failures
returns-in_err-received-in-Message-clause-failures g c =
    let p = err_from_is_err_and c.from_residual.result c.from_residual.ensures.1 in
    rw (p.1, p.2) (inl (tells_none node_is_no_loss))

pub returns-in-Message-clause-failures : goal.returns-in-Message-clause-failures
returns-in-Message-clause-failures g c = inl (tells_none ok_is_no_error)

pub returns-in_err-skip_push-in-Push-clause-failures : goal.returns-in_err-skip_push-in-Push-clause-failures
returns-in_err-skip_push-in-Push-clause-failures g c =
    let p = err_from_is_err_and c.from_residual-in_err-skip_push-in-Push.result c.from_residual-in_err-skip_push-in-Push.ensures.1 in
    rw (p.1, p.2) (inl (tells_error c.in_err-skip_push-in-Push.ensures.failures (loss_told c.in_err-skip_push-in-Push.field-0.0) (loss_came c.in_err-skip_push-in-Push.field-0.0)))

pub returns-in-Push-clause-failures : goal.returns-in-Push-clause-failures
returns-in-Push-clause-failures g c = inl (tells_not c.in_ok-skip_push-in-Push.ensures.failures ok_is_no_error node_is_no_loss)

pub returns-clause-failures : goal.returns-clause-failures
returns-clause-failures g c = c.take_pack.ensures.failures

-- ---- what is awaited and learnt
pub returns-in_err-received-in-Message-clause-leaves : goal.returns-in_err-received-in-Message-clause-leaves
returns-in_err-received-in-Message-clause-leaves g c =
    let p = err_from_is_err_and c.from_residual.result c.from_residual.ensures.1 in
    let leaves = rw c.in_err-received-in-Message.was at c.take.ensures.leaves in
    rw (p.1, p.2) (record { awaits = leaves.awaits; learnt = leaves.learnt })

pub returns-in-Message-clause-leaves : goal.returns-in-Message-clause-leaves
returns-in-Message-clause-leaves g c =
    let leaves = rw c.in_ok-received-in-Message.was at c.take.ensures.leaves in
    record { awaits = tt; learnt = leaves.learnt }

pub returns-in_err-skip_push-in-Push-clause-leaves : goal.returns-in_err-skip_push-in-Push-clause-leaves
returns-in_err-skip_push-in-Push-clause-leaves g c =
    let p = err_from_is_err_and c.from_residual-in_err-skip_push-in-Push.result c.from_residual-in_err-skip_push-in-Push.ensures.1 in
    rw (p.1, p.2) (record { awaits = refl; learnt = λ honest. learns_none _ _ _ _ refl (c.requires.agrees honest) })

pub returns-in-Push-clause-leaves : goal.returns-in-Push-clause-leaves
returns-in-Push-clause-leaves g c = record { awaits = refl; learnt = λ honest. learns_none _ _ _ _ refl (c.requires.agrees honest) }

pub returns-clause-leaves : goal.returns-clause-leaves
returns-clause-leaves g c = c.take_pack.ensures.leaves
