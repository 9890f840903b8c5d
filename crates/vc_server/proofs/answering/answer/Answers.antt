use Rattle.vc_files.proofs.WearLemmas.{writes_both}
use Rattle.vc_local.proofs.CleanLemmas.{stays_then}
use Rattle.vc_model.specs.Question.Question.{Unread}
use Rattle.vc_model.specs.SharedCall.SharedCall.{Accept, Asks}
use Rattle.vc_server.proofs.ComingLemmas.{bytes_replied}
use Rattle.vc_server.proofs.ServingLemmas.{by_itself, err_is, on_the_way, refused_at_once, up_then}
use Rattle.vc_shared.specs.Accepting.{IsRefusedBytes}
use Rattle.vc_server.proofs.answering.answer.Goals as goal

pub returns-in_err-accepted-clause-answers : goal.returns-in_err-accepted-clause-answers
returns-in_err-accepted-clause-answers g c = λ honest m reads.
    rw (err_is _ _ c.from_residual.ensures.1) (refused_at_once _ _ _ _ _ _ _ c.in_err-accepted.field-0.0 (c.in_err-accepted.ensures.answers honest m reads))

pub returns-clause-answers : goal.returns-clause-answers
returns-clause-answers g c = λ honest m reads. (c.reply_to.ensures.replies honest).serves (Accept m) _ _ _ _ (up_then _ _ _ _ c.in_ok-accepted.ensures.settles.down c.in_ok-accepted.ensures.settles.up) (c.in_ok-accepted.ensures.answers honest m reads)

pub returns-in_err-accepted-clause-unread : goal.returns-in_err-accepted-clause-unread
returns-in_err-accepted-clause-unread g c = λ honest n unread.
    rw (err_is _ _ c.from_residual.ensures.1) (refused_at_once _ _ _ _ _ _ _ c.in_err-accepted.field-0.0 (c.in_err-accepted.ensures.unread honest n unread))

pub returns-clause-unread : goal.returns-clause-unread
returns-clause-unread g c = λ honest n unread. (c.reply_to.ensures.replies honest).serves (Asks (Unread n)) _ _ _ _ (up_then _ _ _ _ c.in_ok-accepted.ensures.settles.down c.in_ok-accepted.ensures.settles.up) (c.in_ok-accepted.ensures.unread honest n unread)

pub returns-in_err-accepted-clause-bad_file : goal.returns-in_err-accepted-clause-bad_file
returns-in_err-accepted-clause-bad_file g c = λ honest. rw (err_is _ _ c.from_residual.ensures.1) (by_itself (IsRefusedBytes (g.F.Files.content c.args.shared.now.files) c.args.shared.now.slots c.args.bytes.now) _ _ (c.in_err-accepted.ensures.bad_file honest))

pub returns-clause-bad_file : goal.returns-clause-bad_file
returns-clause-bad_file g c = λ honest. on_the_way (IsRefusedBytes (g.F.Files.content c.args.shared.now.files) c.args.shared.now.slots c.args.bytes.now) _ _ c.reply_to.result (c.in_ok-accepted.ensures.clean honest) (c.reply_to.ensures.bad_file honest)

pub returns-in_err-accepted-clause-clean : goal.returns-in_err-accepted-clause-clean
returns-in_err-accepted-clause-clean g c = λ honest. (c.in_err-accepted.ensures.clean honest).stays

pub returns-clause-clean : goal.returns-clause-clean
returns-clause-clean g c = λ honest. stays_then _ _ _ (c.in_ok-accepted.ensures.clean honest).stays (c.reply_to.ensures.clean honest)

pub returns-clause-wear : goal.returns-clause-wear
returns-clause-wear g c = writes_both c.in_ok-accepted.ensures.wear (λ never. never) c.reply_to.ensures.wear

pub returns-in_err-accepted-clause-replied : goal.returns-in_err-accepted-clause-replied
returns-in_err-accepted-clause-replied g c = λ honest. rw (err_is _ _ c.from_residual.ensures.1) tt

pub returns-clause-replied : goal.returns-clause-replied
returns-clause-replied g c = λ honest. bytes_replied _ _ _ _ c.args.bytes.now c.in_ok-accepted.accepted c.reply_to.result (c.in_ok-accepted.ensures.answered honest) c.reply_to.ensures.replied
