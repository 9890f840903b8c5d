use Rattle.std.proofs.Common.{inr, refl}
use Rattle.std.proofs.lemmas.Result.{err_from_is_err_and}
use Rattle.vc_files.proofs.WearLemmas.{writes_none}
use Rattle.vc_message.proofs.Readings.{never_unread, text_read}
use Rattle.vc_message.specs.AnyView.{message_text}
use Rattle.vc_node.proofs.KeepingLemmas.{good_same}
use Rattle.vc_node.proofs.LearningLemmas.{learns_none}
use Rattle.vc_local.proofs.LookLemmas.{looks_none}
use Rattle.vc_node.proofs.ReceivingClone.{kept_here, nothing_beside}
use Rattle.vc_node.proofs.UnreadLemmas.{failed_answers, failed_refused, failed_unread, message_refused, no_device}
use Rattle.vc_node.specs.Awaited.{awaited_text}
use Rattle.vc_node.proofs.exchanging.receive.Goals as goal

pub returns-in_err-message-clause-answers : goal.returns-in_err-message-clause-answers
returns-in_err-message-clause-answers g c = λ honest m reads.
    failed_answers (g.F.Files.content c.args.files.now) (awaited_text c.args.awaited.now) c.args.bytes.now c.in_err-message.field-0.0 c.from_residual.result c.from_residual.ensures.1 m reads c.in_err-message.ensures.read

pub returns-in_err-message-clause-unread : goal.returns-in_err-message-clause-unread
returns-in_err-message-clause-unread g c = λ honest n unread.
    failed_unread (g.F.Files.content c.args.files.now) (awaited_text c.args.awaited.now) c.args.bytes.now c.in_err-message.field-0.0 c.from_residual.result c.from_residual.ensures.1 n unread c.in_err-message.ensures.refused

pub returns-in_err-message-clause-refused : goal.returns-in_err-message-clause-refused
returns-in_err-message-clause-refused g c = λ honest.
    failed_refused (g.F.Files.content c.args.files.now) (awaited_text c.args.awaited.now) c.args.bytes.now c.in_err-message.field-0.0 c.from_residual.result c.from_residual.ensures.1 c.in_err-message.ensures.refused

pub returns-in_err-message-clause-kept : goal.returns-in_err-message-clause-kept
returns-in_err-message-clause-kept g c = λ honest. kept_here c.from_residual.result refl

pub returns-in_err-message-clause-wear : goal.returns-in_err-message-clause-wear
returns-in_err-message-clause-wear g c = writes_none (no_device c.in_err-message.field-0.0 c.from_residual.result c.from_residual.ensures.1)

pub returns-in_err-message-clause-looks : goal.returns-in_err-message-clause-looks
returns-in_err-message-clause-looks g c = λ honest m reads awaited n waiting held. inr (looks_none (no_device c.in_err-message.field-0.0 c.from_residual.result c.from_residual.ensures.1))

pub returns-clause-answers : goal.returns-clause-answers
returns-clause-answers g c = λ honest m reads.
    c.take.ensures.answers honest m (text_read c.args.bytes.now m (message_text c.in_ok-message.message) reads c.in_ok-message.ensures.read)

pub returns-clause-unread : goal.returns-clause-unread
returns-clause-unread g c = λ honest n unread. absurd (never_unread c.args.bytes.now (message_text c.in_ok-message.message) n c.in_ok-message.ensures.spelled unread)

pub returns-clause-refused : goal.returns-clause-refused
returns-clause-refused g c = λ honest.
    message_refused (g.F.Files.content c.args.files.now) (awaited_text c.args.awaited.now) c.args.bytes.now (message_text c.in_ok-message.message) c.take.result c.in_ok-message.ensures.spelled (c.take.ensures.refused honest)

pub returns-clause-looks : goal.returns-clause-looks
returns-clause-looks g c = λ honest m reads.
    c.take.ensures.looks honest m (text_read c.args.bytes.now m (message_text c.in_ok-message.message) reads c.in_ok-message.ensures.read)

pub returns-in_err-message-clause-beside : goal.returns-in_err-message-clause-beside
returns-in_err-message-clause-beside g c = λ honest. nothing_beside _

pub returns-in_err-message-clause-good : goal.returns-in_err-message-clause-good
returns-in_err-message-clause-good g c = λ honest. good_same _ _ refl

pub returns-in_err-message-clause-leaves : goal.returns-in_err-message-clause-leaves
returns-in_err-message-clause-leaves g c =
    let p = err_from_is_err_and c.from_residual.result c.from_residual.ensures.1 in
    rw (p.1, p.2) (record { awaits = refl; learnt = λ honest. learns_none _ _ _ _ refl (c.requires.agrees honest) })
