use Rattle.std.proofs.Common.{Ok, Err, sym, subst}
use Rattle.std.specs.Prelude.{IfErr, IfOk}
use Rattle.vc_message.specs.AnyView.{message_text}
use Rattle.vc_message.specs.Machine.{IsReport, TextOf}
use Rattle.vc_pkt.specs.StepView.{Gives}
use Rattle.vc_push.specs.ReportView.{report_text}
use Rattle.vc_world.specs.Pushing.{IsUnreadReport}
use Rattle.vc_world.proofs.ReportLemmas.{no_report_told, no_text, report_told, same_text}
use Rattle.vc_world.proofs.WearLemmas.{read_calm, read_own}
use Rattle.vc_world.proofs.pushing.read_report.Goals as goal

pub returns-in-Err-Refused-clause-unread : goal.returns-in-Err-Refused-clause-unread
returns-in-Err-Refused-clause-unread g c m reads = absurd (no_text reads.text c.in-Err-Refused.field-0-0
    (subst (λ e. Gives message_text (Err e) (Ok reads.text)) c.in-Err-Refused.field-0-is (c.in-Err-Refused.ensures.read reads.text reads.spelled)))

pub returns-clause-report : goal.returns-clause-report
returns-clause-report g c m reads =
    let same = same_text reads.text (message_text c.in-Ok.message) (c.in-Ok.ensures.read reads.text reads.spelled) in
    subst (λ r. IfOk r (λ report. IsReport m (report_text report))) (sym c.report_in.ensures) (report_told _ m c.in-Ok.message (subst (TextOf m) same reads.is))

pub returns-clause-unread : goal.returns-clause-unread
returns-clause-unread g c m reads =
    let same = same_text reads.text (message_text c.in-Ok.message) (c.in-Ok.ensures.read reads.text reads.spelled) in
    subst (λ r. IfErr r (IsUnreadReport m)) (sym c.report_in.ensures) (no_report_told _ m c.in-Ok.message (subst (TextOf m) same reads.is))

pub returns-clause-calm : goal.returns-clause-calm
returns-clause-calm g c = rw c.report_in.ensures (read_calm _ c.in-Ok.message)

pub returns-clause-own : goal.returns-clause-own
returns-clause-own g c = rw c.report_in.ensures (read_own _ c.in-Ok.message)
