use Rattle.std.proofs.Common.{rules, ◌≡◌, ap, inl, subst, sym, ◌∙◌, length, List, ℕ}
use Rattle.std.proofs.lemmas.List.{length-map}
use Rattle.vc_push.specs.PushView.{command_of, commands_of}
use Rattle.vc_push.specs.declared.command.Command.{Command}
use Rattle.vc_session.proofs.CheckingLemmas.{IsCheckedPush, checked_push, checks_push, session_checked}
use Rattle.vc_session.proofs.SessionLemmas.{refused_check}
use Rattle.vc_push_rules.specs.Quarantine.{objects_seen}
use Rattle.vc_push_rules.specs.Session.{SessionText, MayBeSetWhere, stage_while}
use Rattle.vc_push_rules.specs.Steps.{ChecksAll, StepChecks}
use Rattle.vc_push_rules.specs.declared.stage.Verdict.{Verdict}
use Rattle.vc_refs.specs.Refs.{packed_map}
use Rattle.vc_session.specs.SessionFault.{IsRefusedCheck, IsRefusedStep}
use Rattle.vc_session.specs.contracts.session.PushSession.{the_view}
use Rattle.vc_push_rules.specs.declared.stage.Stage.TheVariants.{Checked, Unpacked}
use Rattle.vc_history.proofs.StoredLemmas.{keeps_same}
use Rattle.vc_quarantine.proofs.CleanLemmas.{bad_same}
use Rattle.vc_session.proofs.session.PushSession.check.Goals as goal

pub returns-in_err-each-clause-refused : goal.returns-in_err-each-clause-refused
returns-in_err-each-clause-refused g c = λ honest agrees.
    let content = g.F.Files.content c.args.files.now in
    let e = c.in_err-each.field-0.0 in
    let slot = ap (λ (s : SessionText). s.slot) c.self.view_is in
    let told : IsRefusedStep content c.args.self.now Unpacked e = refused_check content c.args.self.now e (subst (λ (n : ℕ). IsRefusedCheck content n e) slot (c.in_err-each.ensures.refused honest agrees)) in
    search (rules, told)

pub returns-in_err-each-clause-spares : goal.returns-in_err-each-clause-spares
returns-in_err-each-clause-spares g c =
    record {
      objects = λ honest. keeps_same _ _ c.in_err-each.ensures.same;
      bad = λ honest. bad_same _ _ c.in_err-each.ensures.same;
      packed = λ honest. inl (ap packed_map c.in_err-each.ensures.same);
    }

pub returns-in_err-verdicts-clause-spares : goal.returns-in_err-verdicts-clause-spares
returns-in_err-verdicts-clause-spares g c =
    record {
      objects = λ honest. keeps_same _ _ c.in_ok-each.ensures.same;
      bad = λ honest. bad_same _ _ c.in_ok-each.ensures.same;
      packed = λ honest. inl (ap packed_map c.in_ok-each.ensures.same);
    }

pub returns-clause-spares : goal.returns-clause-spares
returns-clause-spares g c =
    record {
      objects = λ honest. keeps_same _ _ c.in_ok-each.ensures.same;
      bad = λ honest. bad_same _ _ c.in_ok-each.ensures.same;
      packed = λ honest. inl (ap packed_map c.in_ok-each.ensures.same);
    }

pub invariant_of-self : goal.invariant_of-self
invariant_of-self g c =
    let t : SessionText = the_view c.self.inside in
    let us = c.in_ok-each.each.items in
    let ws = c.in_ok-verdicts.verdicts.items in
    let held : c.deref.result.now ≡ c.self.inside.commands.items = c.deref.ensures.value in
    let paired : length us ≡ length t.commands = c.in_ok-each.ensures.paired ∙ ap length held ∙ sym (length-map c.self.inside.commands.items command_of) in
    let may : MayBeSetWhere t.commands us = subst (λ (cs : List Command). MayBeSetWhere (commands_of cs) us) held c.in_ok-each.ensures.legal in
    let checked : IsCheckedPush t.atomic t.commands ws = checked_push t.atomic t.commands us ws paired may c.in_ok-verdicts.ensures in
    session_checked t ws c.stage_while-self-inside.result checked (c.stage_while-self-inside.ensures ∙ ap (λ (vs : List Verdict). stage_while vs Checked) c.deref-4.ensures.value)

pub returns-clause-steps : goal.returns-clause-steps
returns-clause-steps g c = λ honest agrees.
    let old = g.F.Files.content c.args.files.now in
    let new = g.F.Files.content c.check_in_files.new.files in
    let t : SessionText = the_view c.self.inside in
    let us = c.in_ok-each.each.items in
    let ws = c.in_ok-verdicts.verdicts.items in
    let stage : c.stage_while-self-inside.result ≡ stage_while ws Checked = c.stage_while-self-inside.ensures ∙ ap (λ (vs : List Verdict). stage_while vs Checked) c.deref-4.ensures.value in
    subst (λ (s : SessionText). StepChecks old new s (record t { verdicts = ws; stage = c.stage_while-self-inside.result }) c.count_passing-passed.result) c.self.view_is (record {
      stage = ap (λ (s : SessionText). s.stage) c.self.view_is ∙ c.requires.stage;
      verdicts = λ whole.
          let each : ChecksAll (objects_seen old t.slot) t.commands t.verdicts us = rw (c.deref.ensures.value, c.deref-2.ensures.value) at (c.in_ok-each.ensures.checks honest agrees whole) in
          checks_push (objects_seen old t.slot) t.atomic t.commands t.verdicts us ws each c.in_ok-verdicts.ensures;
      session = ap (λ x. record t { verdicts = ws; stage = x }) stage;
      passed = search rules;
      files = c.in_ok-each.ensures.same;
    })

pub returns-clause-takes : goal.returns-clause-takes
returns-clause-takes g c =
    record {
      session = invariant_of-self g c;
      unchanged = search rules;
      commands = ap (λ (s : SessionText). s.commands) c.self.view_is;
      told = search rules;
    }
