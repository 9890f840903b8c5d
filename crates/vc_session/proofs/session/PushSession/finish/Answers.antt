use Rattle.std.proofs.Common.{rules, ◌≡◌, inl, false, List, ap, ◌∙◌, refl, subst}
use Rattle.std.specs.List.{list_any}
use Rattle.vc_files.proofs.WearLemmas.{writes_none}
use Rattle.vc_push.specs.PushView.{commands_of}
use Rattle.vc_push.specs.ReportView.{report_text}
use Rattle.vc_push.specs.declared.command.Command.{Command}
use Rattle.vc_refs.proofs.LayeredLemmas.{packed_map-same}
use Rattle.vc_refs.specs.Refs.{packed_path}
use Rattle.vc_push_rules.specs.Session.{SessionText, IsInStage, is_passing}
use Rattle.vc_push_rules.specs.Steps.{StepFinishes, TellsAll}
use Rattle.vc_session.specs.contracts.session.PushSession.{the_view}
use Rattle.vc_push_rules.specs.declared.stage.Stage.{Stage}
use Rattle.vc_push_rules.specs.declared.stage.Stage.TheVariants.{Done}
use Rattle.vc_push_rules.specs.declared.stage.Verdict.{Verdict}
use Rattle.vc_history.proofs.StoredLemmas.{keeps_same}
use Rattle.vc_quarantine.proofs.KeepingLemmas.{keeps_quarantine}
use Rattle.vc_quarantine.proofs.CleanLemmas.{bad_same}
use Rattle.vc_session.proofs.session.PushSession.finish.Goals as goal

pub returns-in_err-report-clause-wear : goal.returns-in_err-report-clause-wear
returns-in_err-report-clause-wear g c = writes_none (search rules)

pub returns-clause-steps : goal.returns-clause-steps
returns-clause-steps g c = λ honest.
    let old = g.F.Files.content c.args.files.now in
    let new = g.F.Files.content c.drop_quarantine.new.files in
    let t : SessionText = the_view c.self.inside in
    let report = report_text c.in_ok-report.report in
    let stage : t.stage ≡ Done = ap (λ (s : SessionText). s.stage) c.self.view_is ∙ c.requires.stage in
    let none : list_any is_passing t.verdicts ≡ false = subst (λ (x : Stage). IsInStage t x) stage c.self.invariant.in_stage in
    let all = c.in_ok-report.ensures.told (ap (λ (vs : List Verdict). list_any is_passing vs) c.deref-2.ensures.value ∙ none) in
    let commands = subst (λ (held : List Command). TellsAll (commands_of held) c.deref-2.result.now report.told) c.deref.ensures.value all in
    let told : TellsAll t.commands t.verdicts report.told = subst (λ (vs : List Verdict). TellsAll t.commands vs report.told) c.deref-2.ensures.value commands in
    subst (λ (s : SessionText). StepFinishes old new s s report) c.self.view_is (record {
      stage = stage;
      report_is = record { unpack = c.in_ok-report.ensures.unpack; told = told };
      session = refl;
      dropped = c.in_ok-drop_quarantine.ensures.dropped honest;
      outside = c.in_ok-drop_quarantine.ensures.outside honest;
    })

pub returns-in_err-report-clause-spares : goal.returns-in_err-report-clause-spares
returns-in_err-report-clause-spares g c =
    record {
      objects = λ honest. keeps_same _ _ refl;
      bad = λ honest. bad_same _ _ refl;
      packed = λ honest. inl refl;
    }

pub returns-in_err-drop_quarantine-clause-spares : goal.returns-in_err-drop_quarantine-clause-spares
returns-in_err-drop_quarantine-clause-spares g c =
    record {
      objects = λ honest. keeps_quarantine c.self.inside.slot _ _ (c.in_err-drop_quarantine.ensures.outside honest);
      bad = c.in_err-drop_quarantine.ensures.bad;
      packed = λ honest. inl (packed_map-same _ _ ((c.in_err-drop_quarantine.ensures.outside honest).at packed_path refl));
    }

pub returns-clause-spares : goal.returns-clause-spares
returns-clause-spares g c =
    record {
      objects = λ honest. keeps_quarantine c.self.inside.slot _ _ (c.in_ok-drop_quarantine.ensures.outside honest);
      bad = c.in_ok-drop_quarantine.ensures.bad;
      packed = λ honest. inl (packed_map-same _ _ ((c.in_ok-drop_quarantine.ensures.outside honest).at packed_path refl));
    }
