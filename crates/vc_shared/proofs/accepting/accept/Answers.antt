use Rattle.std.proofs.Common.{inr}
use Rattle.vc_files.proofs.WearLemmas.{writes_none}
use Rattle.vc_message.proofs.Readings.{never_unread, text_read}
use Rattle.vc_message.specs.AnyView.{message_text}
use Rattle.vc_local.proofs.LookLemmas.{looks_none}
use Rattle.vc_shared.proofs.AcceptingLemmas.{failed_answers, failed_refused, failed_unread, message_answered, message_refused, no_device}
use Rattle.vc_shared.proofs.ArrivingLemmas.{changes_none}
use Rattle.vc_shared.proofs.accepting.accept.Goals as goal

pub take-requires : goal.take-requires
take-requires g c = record { read = (c.args.bytes.now, c.in_ok-message.ensures.spelled); tellable = c.requires.tellable; agrees = c.requires.agrees }

pub returns-in_err-message-clause-answers : goal.returns-in_err-message-clause-answers
returns-in_err-message-clause-answers g c = λ honest m reads.
    failed_answers (g.F.Files.content c.args.files.now) c.args.slots.now c.args.bytes.now c.in_err-message.field-0.0 c.from_residual.result c.from_residual.ensures.1 m reads c.in_err-message.ensures.read

pub returns-in_err-message-clause-unread : goal.returns-in_err-message-clause-unread
returns-in_err-message-clause-unread g c = λ honest n unread.
    failed_unread (g.F.Files.content c.args.files.now) c.args.slots.now c.args.bytes.now c.in_err-message.field-0.0 c.from_residual.result c.from_residual.ensures.1 n unread c.in_err-message.ensures.refused

pub returns-in_err-message-clause-refused : goal.returns-in_err-message-clause-refused
returns-in_err-message-clause-refused g c = λ honest.
    failed_refused (g.F.Files.content c.args.files.now) c.args.slots.now c.args.bytes.now c.in_err-message.field-0.0 c.from_residual.result c.from_residual.ensures.1 c.in_err-message.ensures.refused

pub returns-in_err-message-clause-wear : goal.returns-in_err-message-clause-wear
returns-in_err-message-clause-wear g c = writes_none (no_device c.in_err-message.field-0.0 c.from_residual.result c.from_residual.ensures.1)

pub returns-in_err-message-clause-looks : goal.returns-in_err-message-clause-looks
returns-in_err-message-clause-looks g c = λ m reads. inr (looks_none (no_device c.in_err-message.field-0.0 c.from_residual.result c.from_residual.ensures.1))

pub returns-in_err-message-clause-outside : goal.returns-in_err-message-clause-outside
returns-in_err-message-clause-outside g c = λ honest. changes_none _ _

pub returns-clause-answers : goal.returns-clause-answers
returns-clause-answers g c = λ honest m reads.
    c.take.ensures.answers honest m (text_read c.args.bytes.now m (message_text c.in_ok-message.message) reads c.in_ok-message.ensures.read)

pub returns-clause-unread : goal.returns-clause-unread
returns-clause-unread g c = λ honest n unread. absurd (never_unread c.args.bytes.now (message_text c.in_ok-message.message) n c.in_ok-message.ensures.spelled unread)

pub returns-clause-refused : goal.returns-clause-refused
returns-clause-refused g c = λ honest.
    message_refused (g.F.Files.content c.args.files.now) c.args.slots.now c.args.bytes.now (message_text c.in_ok-message.message) c.take.result c.in_ok-message.ensures.spelled (c.take.ensures.refused honest)

pub returns-clause-looks : goal.returns-clause-looks
returns-clause-looks g c = λ m reads.
    c.take.ensures.looks m (text_read c.args.bytes.now m (message_text c.in_ok-message.message) reads c.in_ok-message.ensures.read)

pub returns-clause-answered : goal.returns-clause-answered
returns-clause-answered g c = λ honest.
    message_answered (g.F.Files.content c.args.files.now) (g.F.Files.content c.take.new.files) c.args.slots.now c.take.new.slots c.args.bytes.now (message_text c.in_ok-message.message) c.take.result c.in_ok-message.ensures.spelled (c.take.ensures.answered honest)
