-- The report that a message of bytes is.
use Rattle.std.proofs.Common.{◌≡◌, Result, Ok, Err, refl, sym, subst}
use Rattle.std.specs.Prelude.{IfErr, IfOk}
use Rattle.vc_message.specs.AnyMessage.{MessageText}
use Rattle.vc_message.specs.AnyView.{message_text}
use Rattle.vc_message.specs.Machine.{IsReport, TextOf}
use Rattle.vc_message.specs.declared.message.Message.{Message as AnyMessage}
use Rattle.vc_message.specs.declared.message.Message.TheVariants as of
use Rattle.vc_model.specs.Message.{Message}
use Rattle.vc_pkt.specs.declared.fault.PktFault.{PktFault}
use Rattle.vc_push.specs.ReportView.{report_text}
use Rattle.vc_push.specs.declared.report.Report.{Report}
use Rattle.vc_world.specs.Exchanging.{IsNoReport}
use Rattle.vc_world.specs.Pushing.{IsUnreadReport, report_in}

pub same_text : (x y : MessageText) → ◌≡◌ {A = Result MessageText PktFault} (Ok x) (Ok y) → x ≡ y
same_text x y e = cc

pub no_text : (x : MessageText) (f : PktFault) → ◌≡◌ {A = Result MessageText PktFault} (Ok x) (Err f) → ⊥
no_text x f e = absurd (cc)

pub report_told : (R : Type 0) (m : Message) (message : AnyMessage) → TextOf m (message_text message) → IfOk (report_in {R = R} message) (λ report. IsReport m (report_text report))
report_told R m (of.Report report) is = is
report_told R m (of.List it) is = tt
report_told R m (of.Advert it) is = tt
report_told R m (of.Want it) is = tt
report_told R m (of.Pack it) is = tt
report_told R m (of.Push it) is = tt
report_told R m (of.Error it) is = tt

-- a message that is no report's is none
pub no_report_here : (m : Message) (message : AnyMessage) → ((report : Report) → message ≡ of.Report report → ⊥) → TextOf m (message_text message) → IsNoReport m
no_report_here m (of.Report report) other is = absurd (other report refl)
no_report_here m (of.List it) other is = subst IsNoReport (sym is) tt
no_report_here m (of.Advert it) other is = subst IsNoReport (sym is.is) tt
no_report_here m (of.Want it) other is = subst IsNoReport (sym is) tt
no_report_here m (of.Pack it) other is = subst IsNoReport (sym is.is) tt
no_report_here m (of.Push it) other is = subst IsNoReport (sym is.is) tt
no_report_here m (of.Error it) other is = subst IsNoReport (sym is) tt

pub no_report_told : (R : Type 0) (m : Message) (message : AnyMessage) → TextOf m (message_text message) → IfErr (report_in {R = R} message) (IsUnreadReport m)
no_report_told R m (of.Report report) is = tt
no_report_told R m (of.List it) is = subst IsNoReport (sym is) tt
no_report_told R m (of.Advert it) is = subst IsNoReport (sym is.is) tt
no_report_told R m (of.Want it) is = subst IsNoReport (sym is) tt
no_report_told R m (of.Pack it) is = subst IsNoReport (sym is.is) tt
no_report_told R m (of.Push it) is = subst IsNoReport (sym is.is) tt
no_report_told R m (of.Error it) is = subst IsNoReport (sym is) tt
