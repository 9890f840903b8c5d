use Rattle.std.proofs.Common.{subst}
use Rattle.vc_message.specs.AnyView.{message_text}
use Rattle.vc_message.specs.Machine.{TextOf}
use Rattle.vc_message.specs.declared.message.Message.{Message}
use Rattle.vc_world.proofs.ReportLemmas.{no_report_here}
use Rattle.vc_world.proofs.pushing.take_message.Goals as goal

pub returns-in-Report : goal.returns-in-Report
returns-in-Report g c = record {
  takes = λ f m is. c.take_report.ensures.takes f m (subst (λ (x : Message). TextOf m (message_text x)) c.in-Report.is is);
  kept = c.take_report.ensures.kept;
  wear = c.take_report.ensures.wear;
  own = c.take_report.ensures.own;
}

pub returns-in_default : goal.returns-in_default
returns-in_default g c = record {
  takes = λ f m is. c.take_other.ensures.takes f m is (no_report_here m c.args.message c.in_default.not-Report is);
  kept = c.take_other.ensures.kept;
  wear = c.take_other.ensures.wear;
  own = c.take_other.ensures.own;
}
