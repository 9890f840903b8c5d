use Rattle.std.proofs.Common.{Ok, Err, Option, ap, subst, sym, true≢false}
use Rattle.std.proofs.lemmas.Result.{err_from_is_err_and}
use Rattle.vc_files.proofs.WearLemmas.{writes_both}
use Rattle.vc_local.proofs.CleanLemmas.{stays_then}
use Rattle.vc_shared.specs.Arriving.{AnswersKnown}
use Rattle.vc_shared.specs.declared.accepting.Accepted.{Accepted}
use Rattle.vc_server.proofs.ComingLemmas.{fault_known, fault_served, none_known, none_served, reply_known, reply_served, taken_up}
use Rattle.vc_message.proofs.SourceLaws.{loss_as, ok_is_no_error, same_error}
use Rattle.vc_shared.proofs.LossLemmas.{node_is_no_loss}
use Rattle.vc_server.proofs.answering.answer_from.Goals as goal

-- ---- no message
pub returns-in_err-accepted-clause-serves : goal.returns-in_err-accepted-clause-serves
returns-in_err-accepted-clause-serves g c =
    let p = err_from_is_err_and c.from_residual.result c.from_residual.ensures.1 in
    rw (p.1, p.2) (fault_served _ _ _ _ _ _ _ _ _ c.in_err-accepted.field-0.0 c.in_err-accepted.ensures.accepts)

pub returns-in_err-accepted-clause-known : goal.returns-in_err-accepted-clause-known
returns-in_err-accepted-clause-known g c =
    let p = err_from_is_err_and c.from_residual.result c.from_residual.ensures.1 in
    rw (p.1, p.2) (fault_known _ _ _ _ _ _ _ _ _ c.in_err-accepted.field-0.0 c.in_err-accepted.ensures.known)

pub returns-in_default-clause-serves : goal.returns-in_default-clause-serves
returns-in_default-clause-serves g c = none_served _ _ _ _ _ _ _ _ _ (rw c.in_default.is at c.in_ok-accepted.ensures.accepts)

pub returns-in_default-clause-known : goal.returns-in_default-clause-known
returns-in_default-clause-known g c =
    let content = g.F.Files.content in
    let was = c.args.shared.now in
    let now = c.accept_from.new.self in
    let before = g.R.Source.remaining c.args.reader.now in
    let rest = g.R.Source.remaining c.accept_from.new.reader in
    none_known g.F.Files.honest before rest (content was.files) (content now.files) was.slots now.slots was.is_up now.is_up
    (subst (λ (found : Option Accepted). AnswersKnown g.F.Files.honest before rest (content was.files) (content now.files) was.slots now.slots was.is_up now.is_up (Ok found)) c.in_default.is c.in_ok-accepted.ensures.known)

-- ---- a message
pub reply_to-requires : goal.reply_to-requires
reply_to-requires g c =
    let accepts = rw c.in-Some.is at c.in_ok-accepted.ensures.accepts in
    record { up = c.in_ok-accepted.ensures.settles.up (taken_up _ accepts.came c.in-Some.accepted accepts.told); tellable = c.in_ok-accepted.ensures.settles.tellable }

pub returns-clause-serves : goal.returns-clause-serves
returns-clause-serves g c =
    let accepts = rw c.in-Some.is at c.in_ok-accepted.ensures.accepts in
    reply_served _ _ _ _ _ _ _ _ _ _ _ _ c.in-Some.accepted (Ok c.in_ok-reply.reply) (c.in_ok-accepted.ensures.settles.up (taken_up _ accepts.came c.in-Some.accepted accepts.told)) c.in_ok-reply.ensures.replies
    c.in_ok-reply.ensures.replied c.in_ok-accepted.ensures.clean c.in_ok-reply.ensures.bad_file accepts

pub returns-clause-known : goal.returns-clause-known
returns-clause-known g c =
    let content = g.F.Files.content in
    let was = c.args.shared.now in
    let mid = c.accept_from.new.self in
    let before = g.R.Source.remaining c.args.reader.now in
    let rest = g.R.Source.remaining c.accept_from.new.reader in
    let accepts = rw c.in-Some.is at c.in_ok-accepted.ensures.accepts in
    reply_known _ _ _ _ _ _ _ _ _ _ _ _ c.in-Some.accepted (Ok c.in_ok-reply.reply) (c.in_ok-accepted.ensures.settles.up (taken_up _ accepts.came c.in-Some.accepted accepts.told)) c.in_ok-reply.ensures.replies
    (subst (λ (found : Option Accepted). AnswersKnown g.F.Files.honest before rest (content was.files) (content mid.files) was.slots mid.slots was.is_up mid.is_up (Ok found)) c.in-Some.is c.in_ok-accepted.ensures.known)

pub returns-in_err-reply-clause-serves : goal.returns-in_err-reply-clause-serves
returns-in_err-reply-clause-serves g c =
    let p = err_from_is_err_and c.from_residual-in_err-reply.result c.from_residual-in_err-reply.ensures.1 in
    let accepts = rw c.in-Some.is at c.in_ok-accepted.ensures.accepts in
    rw (p.1, p.2)
    (reply_served _ _ _ _ _ _ _ _ _ _ _ _ c.in-Some.accepted (Err c.in_err-reply.field-0.0) (c.in_ok-accepted.ensures.settles.up (taken_up _ accepts.came c.in-Some.accepted accepts.told)) c.in_err-reply.ensures.replies
    tt c.in_ok-accepted.ensures.clean c.in_err-reply.ensures.bad_file accepts)

pub returns-in_err-reply-clause-known : goal.returns-in_err-reply-clause-known
returns-in_err-reply-clause-known g c =
    let content = g.F.Files.content in
    let was = c.args.shared.now in
    let mid = c.accept_from.new.self in
    let before = g.R.Source.remaining c.args.reader.now in
    let rest = g.R.Source.remaining c.accept_from.new.reader in
    let p = err_from_is_err_and c.from_residual-in_err-reply.result c.from_residual-in_err-reply.ensures.1 in
    let accepts = rw c.in-Some.is at c.in_ok-accepted.ensures.accepts in
    rw (p.1, p.2)
    (reply_known _ _ _ _ _ _ _ _ _ _ _ _ c.in-Some.accepted (Err c.in_err-reply.field-0.0) (c.in_ok-accepted.ensures.settles.up (taken_up _ accepts.came c.in-Some.accepted accepts.told)) c.in_err-reply.ensures.replies
    (subst (λ (found : Option Accepted). AnswersKnown g.F.Files.honest before rest (content was.files) (content mid.files) was.slots mid.slots was.is_up mid.is_up (Ok found)) c.in-Some.is c.in_ok-accepted.ensures.known))

pub returns-in_err-reply-clause-lost : goal.returns-in_err-reply-clause-lost
returns-in_err-reply-clause-lost g c =
    let p = err_from_is_err_and c.from_residual-in_err-reply.result c.from_residual-in_err-reply.ensures.1 in
    rw (p.1, p.2) (record {
      failures = loss_as c.in_ok-accepted.ensures.lost.failures (λ told. absurd (ok_is_no_error told)) (λ told. absurd (node_is_no_loss told)) (λ fault. absurd (true≢false (sym fault)));
      kept = λ honest never. absurd (cc never);
    })

pub returns-in_err-accepted-clause-lost : goal.returns-in_err-accepted-clause-lost
returns-in_err-accepted-clause-lost g c =
    let p = err_from_is_err_and c.from_residual.result c.from_residual.ensures.1 in
    rw (p.1, p.2) (record {
      failures = loss_as c.in_err-accepted.ensures.lost.failures (λ told. ap Err (same_error told)) (λ told. ap Err (same_error told)) (λ fault. fault);
      kept = c.in_err-accepted.ensures.lost.kept;
    })

pub returns-in_default-clause-lost : goal.returns-in_default-clause-lost
returns-in_default-clause-lost g c = record { failures = loss_as c.in_ok-accepted.ensures.lost.failures (λ told. absurd (ok_is_no_error told)) (λ told. absurd (ok_is_no_error told)) (λ fault. fault); kept = λ honest. tt }

pub returns-clause-lost : goal.returns-clause-lost
returns-clause-lost g c = record { failures = loss_as c.in_ok-accepted.ensures.lost.failures (λ told. absurd (ok_is_no_error told)) (λ told. absurd (ok_is_no_error told)) (λ fault. fault); kept = λ honest. tt }

pub returns-in_err-accepted-clause-clean : goal.returns-in_err-accepted-clause-clean
returns-in_err-accepted-clause-clean g c = λ honest. (c.in_err-accepted.ensures.clean honest).stays

pub returns-in_default-clause-clean : goal.returns-in_default-clause-clean
returns-in_default-clause-clean g c = λ honest. (c.in_ok-accepted.ensures.clean honest).stays

pub returns-in_err-reply-clause-clean : goal.returns-in_err-reply-clause-clean
returns-in_err-reply-clause-clean g c = λ honest. stays_then _ _ _ (c.in_ok-accepted.ensures.clean honest).stays (c.in_err-reply.ensures.clean honest)

pub returns-clause-clean : goal.returns-clause-clean
returns-clause-clean g c = λ honest. stays_then _ _ _ (c.in_ok-accepted.ensures.clean honest).stays (c.in_ok-reply.ensures.clean honest)

pub returns-clause-wear : goal.returns-clause-wear
returns-clause-wear g c = writes_both c.in_ok-accepted.ensures.wear (λ never. never) c.in_ok-reply.ensures.wear

pub returns-in_err-reply-clause-wear : goal.returns-in_err-reply-clause-wear
returns-in_err-reply-clause-wear g c =
    let p = err_from_is_err_and c.from_residual-in_err-reply.result c.from_residual-in_err-reply.ensures.1 in
    rw (p.1, p.2) (writes_both c.in_ok-accepted.ensures.wear (λ never. never) c.in_err-reply.ensures.wear)
