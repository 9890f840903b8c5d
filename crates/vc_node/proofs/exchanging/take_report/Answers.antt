use Rattle.std.proofs.Common.{refl, rules}
use Rattle.vc_exchange.proofs.KeptLemmas.{keeps_beside_refs}
use Rattle.vc_node.proofs.ExchangingLemmas.{err_is, report_blamed, report_failed, report_may, report_taken}
use Rattle.vc_lemmas.proofs.Lists.{on_err}
use Rattle.vc_node.proofs.LearningLemmas.{learns_failed, learns_taken}
use Rattle.vc_local.proofs.LookLemmas.{or_told}
use Rattle.vc_node.proofs.ReceivingFaults.{device_from, files_no_message, kept_as}
use Rattle.vc_node.specs.Awaited.{awaited_text}
use Rattle.vc_push.specs.ReportView.{report_text}
use Rattle.vc_node.proofs.ReceivingClone.{refs_beside}
use Rattle.vc_node.proofs.exchanging.take_report.Goals as goal

pub returns-in_err-told-clause-answers : goal.returns-in_err-told-clause-answers
returns-in_err-told-clause-answers g c = λ honest m is.
    report_failed (g.F.Files.content c.args.files.now) (g.F.Files.content c.receive_report.new.files) (awaited_text c.args.awaited.now) m (report_text c.args.report.now) is
    (c.receive_report.ensures.outside honest) (c.receive_report.ensures.bad honest) c.in_err-told.field-0.0 c.from_residual.result c.from_residual.ensures.1 (c.in_err-told.ensures.refused honest (c.requires.agrees honest))
    (c.in_err-told.ensures.cut honest (c.requires.agrees honest))

pub returns-in_err-told-clause-refused : goal.returns-in_err-told-clause-refused
returns-in_err-told-clause-refused g c = λ honest.
    report_blamed (g.F.Files.content c.args.files.now) (awaited_text c.args.awaited.now) (report_text c.args.report.now) c.in_err-told.field-0.0 c.from_residual.result c.from_residual.ensures.1 (c.in_err-told.ensures.refused honest (c.requires.agrees honest))

pub returns-in_err-told-clause-kept : goal.returns-in_err-told-clause-kept
returns-in_err-told-clause-kept g c = λ honest.
    kept_as c.in_err-told.field-0.0 c.from_residual.result c.from_residual.ensures.1
    (λ told. absurd (files_no_message (g.F.Files.content c.args.files.now) c.in_err-told.field-0.0 (c.in_err-told.ensures.refused honest (c.requires.agrees honest)) told))

pub returns-in_err-told-clause-looks : goal.returns-in_err-told-clause-looks
returns-in_err-told-clause-looks g c = λ honest m is.
    report_may (g.F.Files.content c.args.files.now) (awaited_text c.args.awaited.now) m (report_text c.args.report.now) is (λ r holds awaits.
    or_told (c.receive_report.ensures.looks honest (c.requires.agrees honest) r holds m is awaits) (λ may. may)
    (device_from c.receive_report.result c.in_err-told.field-0.0 c.in_err-told.was c.from_residual.result c.from_residual.ensures.1))

pub returns-clause-answers : goal.returns-clause-answers
returns-clause-answers g c = λ honest m is.
    report_taken (g.F.Files.content c.args.files.now) (g.F.Files.content c.receive_report.new.files) (awaited_text c.args.awaited.now) m (report_text c.args.report.now) is
    (c.receive_report.ensures.outside honest) (c.receive_report.ensures.bad honest) c.in_ok-told.told.moved c.in_ok-told.told.refused (c.in_ok-told.ensures.taken honest (c.requires.agrees honest))

pub returns-clause-looks : goal.returns-clause-looks
returns-clause-looks g c = λ honest m is.
    report_may (g.F.Files.content c.args.files.now) (awaited_text c.args.awaited.now) m (report_text c.args.report.now) is (λ r holds awaits.
    or_told (c.in_ok-told.ensures.looks honest (c.requires.agrees honest) r holds m is awaits) (λ may. may) (λ never. absurd never))

pub returns-in_err-told-clause-good : goal.returns-in_err-told-clause-good
returns-in_err-told-clause-good g c = λ honest. record { objects = keeps_beside_refs _ _ (c.receive_report.ensures.outside honest); bad = search rules }

pub returns-clause-good : goal.returns-clause-good
returns-clause-good g c = λ honest. record { objects = keeps_beside_refs _ _ (c.receive_report.ensures.outside honest); bad = search rules }

pub returns-in_err-told-clause-beside : goal.returns-in_err-told-clause-beside
returns-in_err-told-clause-beside g c = λ honest. refs_beside _ _ (c.receive_report.ensures.outside honest)

pub returns-clause-beside : goal.returns-clause-beside
returns-clause-beside g c = λ honest. refs_beside _ _ (c.receive_report.ensures.outside honest)

pub returns-in_err-told-clause-leaves : goal.returns-in_err-told-clause-leaves
returns-in_err-told-clause-leaves g c = record {
  awaits = on_err c.from_residual.result _ refl;
  learnt = λ honest.
      learns_failed _ _ _ _ c.receive_report.result (c.receive_report.ensures.learns honest (c.requires.agrees honest)) (keeps_beside_refs _ _ (c.receive_report.ensures.outside honest)) c.in_err-told.field-0.0 c.in_err-told.was
      c.from_residual.result (err_is _ c.from_residual.result c.from_residual.ensures.1);
}

pub returns-clause-leaves : goal.returns-clause-leaves
returns-clause-leaves g c = record { awaits = tt; learnt = λ honest. learns_taken _ _ _ _ c.receive_report.result (c.receive_report.ensures.learns honest (c.requires.agrees honest)) (keeps_beside_refs _ _ (c.receive_report.ensures.outside honest)) c.in_ok-told.was }
