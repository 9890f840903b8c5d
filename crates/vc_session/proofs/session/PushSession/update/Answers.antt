use Rattle.std.proofs.Common.{rules, ◌≡◌, inl, false, true≢false, length, get_or, take, List, Some, Option, ap, sym, ◌∙◌, refl, subst, slice_set, ℕ}
use Rattle.std.specs.Prelude.{slice_get}
use Rattle.std.specs.List.{list_any}
use Rattle.vc_lemmas.proofs.Lists.{on_err}
use Rattle.std.proofs.lemmas.List.{length-set}
use Rattle.vc_push.specs.PushView.{command_of}
use Rattle.vc_push.specs.declared.command.Command.{Command}
use Rattle.vc_push.specs.declared.reason.Reason.{Reason}
use Rattle.vc_refs.specs.Head.{KeepsTheRest}
use Rattle.vc_refs.specs.Refs.{refs}
use Rattle.vc_push_rules.specs.Session.{SessionText, IsInStage, MayBeSetWhere, is_passing, stage_while, verdict_of}
use Rattle.vc_push_rules.specs.Steps.{StepUpdates}
use Rattle.vc_push_rules.specs.Verdict.{IsVerdictAtUpdate, MayBeSet, refs_after}
use Rattle.vc_session.specs.contracts.session.PushSession.{the_view}
use Rattle.vc_push_rules.specs.declared.stage.Stage.{Stage}
use Rattle.vc_push_rules.specs.declared.stage.Stage.TheVariants.{Migrated}
use Rattle.vc_push_rules.specs.declared.stage.Verdict.{Verdict}
use Rattle.vc_push_rules.specs.declared.stage.Verdict.TheVariants.{Passing}
use Rattle.vc_session.proofs.SessionLemmas.{command_there, early_update, either, in_stage, may_after, may_at, may_set_next, same_there, updates_next}
use Rattle.vc_push_rules.proofs.VerdictLemmas.{settled_verdict}
use Rattle.vc_quarantine.proofs.WearLemmas.{wears_told}
use Rattle.vc_history.proofs.StoredLemmas.{keeps_same}
use Rattle.vc_quarantine.proofs.KeepingLemmas.{keeps_rest}
use Rattle.vc_quarantine.proofs.CleanLemmas.{bad_same}
use Rattle.vc_session.proofs.session.PushSession.update.Goals as goal
use Rattle.vc_session.proofs.session.PushSession.update.Goals.{in-None, in-Some-found}

pub returns-in_err-found-clause-looks : goal.returns-in_err-found-clause-looks
returns-in_err-found-clause-looks g c = λ honest.
    let content = g.F.Files.content c.args.files.now in
    let t : SessionText = the_view c.self.inside in
    let k = c.in-Some.place in
    let command : Command = c.index-2.result.now in
    let here : slice_get t.verdicts k ≡ Some Passing = ap (λ (vs : List Verdict). slice_get vs k) (sym c.deref.ensures.value) ∙ c.in-Some.ensures.place.0 in
    let first : list_any is_passing (take k t.verdicts) ≡ false = ap (λ (vs : List Verdict). list_any is_passing (take k vs)) (sym c.deref.ensures.value) ∙ c.in-Some.ensures.place.1 in
    let is : command ≡ get_or c.self.inside.commands.items k command = search (rules, c.index-2.ensures) in
    let there : slice_get t.commands k ≡ Some (command_of command) = command_there c.self.inside.commands.items t.verdicts k command c.self.invariant.paired here is in
    let stage : t.stage ≡ Migrated = ap (λ (s : SessionText). s.stage) c.self.view_is ∙ c.requires.stage in
    let may : MayBeSetWhere t.commands t.verdicts = (subst (λ (x : Stage). IsInStage t x) stage c.self.invariant.in_stage).0 in
    either (c.in_err-found.ensures.looks honest (may_at t.commands t.verdicts k (command_of command) may here there))
    (λ judged. inl (may_set_next t.verdicts k here first t.commands (command_of command) there content c.args.self.now c.requires.single (ap (λ (s : SessionText). s.verdicts) (sym c.self.view_is)) (ap (λ (s : SessionText). s.commands) (sym c.self.view_is)) judged))
    (λ w. wears_told w (search rules))

pub invariant_of-self : goal.invariant_of-self
invariant_of-self g c =
    let t : SessionText = the_view c.self.inside in
    let k = c.in-Some.place in
    let ws = c.set_verdict.new.verdicts.items in
    let verdict : c.match-found.verdict ≡ verdict_of c.in_ok-found.found = elim c.match-found.branch [
      | in-None w ↦ w.verdict-is ∙ sym (ap verdict_of w.in-None.is)
      | in-Some-found w ↦ w.verdict-is ∙ sym (ap verdict_of w.in-Some-found.is)
    ] in
    let set : ws ≡ slice_set t.verdicts k c.match-found.verdict = search (rules, c.set_verdict.ensures) in
    let settled : is_passing c.match-found.verdict ≡ false = ap is_passing verdict ∙ settled_verdict c.in_ok-found.found in
    let before : t.stage ≡ Migrated = ap (λ (s : SessionText). s.stage) c.self.view_is ∙ c.requires.stage in
    let may : MayBeSetWhere t.commands t.verdicts = (subst (λ (x : Stage). IsInStage t x) before c.self.invariant.in_stage).0 in
    let after : MayBeSetWhere t.commands ws = subst (λ (vs : List Verdict). MayBeSetWhere t.commands vs) (sym set) (may_after t.commands t.verdicts k c.match-found.verdict settled may) in
    let u : SessionText = record t { verdicts = ws; stage = c.stage_while-self-inside.result } in
    let single : t.atomic ≡ false = ap (λ (s : SessionText). s.atomic) c.self.view_is ∙ c.requires.single in
    let stage : u.stage ≡ stage_while ws Migrated = c.stage_while-self-inside.ensures ∙ ap (λ (vs : List Verdict). stage_while vs Migrated) c.deref-3.ensures.value in
    record {
      paired = ap length set ∙ length-set t.verdicts k c.match-found.verdict ∙ c.self.invariant.paired;
      in_stage = subst (λ (x : Stage). IsInStage u x) (sym stage) (in_stage u Migrated (λ passes. (after, passes, λ atomic. absurd (true≢false (sym atomic ∙ single)))));
    }

pub returns-clause-steps : goal.returns-clause-steps
returns-clause-steps g c = λ honest.
    let old = g.F.Files.content c.args.files.now in
    let new = g.F.Files.content c.update.new.files in
    let t : SessionText = the_view c.self.inside in
    let k = c.in-Some.place in
    let command : Command = c.index-2.result.now in
    let ws = c.set_verdict.new.verdicts.items in
    let found = c.match-found.found in
    let here : slice_get t.verdicts k ≡ Some Passing = ap (λ (vs : List Verdict). slice_get vs k) (sym c.deref.ensures.value) ∙ c.in-Some.ensures.place.0 in
    let first : list_any is_passing (take k t.verdicts) ≡ false = ap (λ (vs : List Verdict). list_any is_passing (take k vs)) (sym c.deref.ensures.value) ∙ c.in-Some.ensures.place.1 in
    let is : command ≡ get_or c.self.inside.commands.items k command = search (rules, c.index-2.ensures) in
    let there : slice_get t.commands k ≡ Some (command_of command) = command_there c.self.inside.commands.items t.verdicts k command c.self.invariant.paired here is in
    let before : t.stage ≡ Migrated = ap (λ (s : SessionText). s.stage) c.self.view_is ∙ c.requires.stage in
    let may : MayBeSetWhere t.commands t.verdicts = (subst (λ (x : Stage). IsInStage t x) before c.self.invariant.in_stage).0 in
    let allowed : MayBeSet command.name.items = may_at t.commands t.verdicts k (command_of command) may here there in
    let told : found ≡ c.in_ok-found.found = elim c.match-found.branch [
      | in-None w ↦ w.found-is
      | in-Some-found w ↦ w.found-is ∙ sym w.in-Some-found.is
    ] in
    let verdict : c.match-found.verdict ≡ verdict_of found = elim c.match-found.branch [
      | in-None w ↦ w.verdict-is ∙ sym (ap verdict_of (w.found-is ∙ w.in-None.is))
      | in-Some-found w ↦ w.verdict-is ∙ sym (ap verdict_of w.found-is)
    ] in
    let judged : IsVerdictAtUpdate (refs old) (command_of command) found = subst (λ (f : Option Reason). IsVerdictAtUpdate (refs old) (command_of command) f) (sym told) (c.in_ok-found.ensures.verdict honest allowed) in
    let set : refs new ≡ refs_after (refs old) (command_of command) found = c.in_ok-found.ensures.updates.set honest ∙ ap (λ (f : Option Reason). refs_after (refs old) (command_of command) f) (sym told) in
    let after : ws ≡ slice_set t.verdicts k (verdict_of found) = c.set_verdict.ensures ∙ ap (λ (v : Verdict). slice_set t.verdicts k v) verdict in
    let read : Command = c.index.result.now in
    let also : read ≡ get_or c.self.inside.commands.items k read = search (rules, c.index.ensures) in
    let same : read ≡ command = same_there c.self.inside.commands.items t.verdicts k read command c.self.invariant.paired here also is in
    let copied : c.in_ok-name.name.items ≡ read.name.items = search (rules, c.in_ok-name.ensures, c.deref-2.ensures.value) in
    let named : c.in_ok-name.name.items ≡ command.name.items = copied ∙ ap (λ (x : Command). x.name.items) same in
    let stage : c.stage_while-self-inside.result ≡ stage_while ws Migrated = c.stage_while-self-inside.ensures ∙ ap (λ (vs : List Verdict). stage_while vs Migrated) c.deref-3.ensures.value in
    subst (λ (s : SessionText). StepUpdates old new s (record t { verdicts = ws; stage = c.stage_while-self-inside.result }) c.in_ok-name.name.items found) c.self.view_is (record {
      stage = before;
      single = ap (λ (s : SessionText). s.atomic) c.self.view_is ∙ c.requires.single;
      update = updates_next t.verdicts k here first t.commands (command_of command) there (refs old) (refs new) ws c.in_ok-name.name.items found named judged set after;
      session = ap (λ (x : Stage). record t { verdicts = ws; stage = x }) stage;
      rest = subst (λ (n : List ℕ). KeepsTheRest n old new) (sym named) (c.in_ok-found.ensures.updates.rest honest);
    })

pub returns-clause-looks : goal.returns-clause-looks
returns-clause-looks g c = λ honest.
    let content = g.F.Files.content c.args.files.now in
    let t : SessionText = the_view c.self.inside in
    let k = c.in-Some.place in
    let command : Command = c.index-2.result.now in
    let here : slice_get t.verdicts k ≡ Some Passing = ap (λ (vs : List Verdict). slice_get vs k) (sym c.deref.ensures.value) ∙ c.in-Some.ensures.place.0 in
    let first : list_any is_passing (take k t.verdicts) ≡ false = ap (λ (vs : List Verdict). list_any is_passing (take k vs)) (sym c.deref.ensures.value) ∙ c.in-Some.ensures.place.1 in
    let is : command ≡ get_or c.self.inside.commands.items k command = search (rules, c.index-2.ensures) in
    let there : slice_get t.commands k ≡ Some (command_of command) = command_there c.self.inside.commands.items t.verdicts k command c.self.invariant.paired here is in
    let stage : t.stage ≡ Migrated = ap (λ (s : SessionText). s.stage) c.self.view_is ∙ c.requires.stage in
    let may : MayBeSetWhere t.commands t.verdicts = (subst (λ (x : Stage). IsInStage t x) stage c.self.invariant.in_stage).0 in
    either (c.in_ok-found.ensures.looks honest (may_at t.commands t.verdicts k (command_of command) may here there))
    (λ judged. inl (may_set_next t.verdicts k here first t.commands (command_of command) there content c.args.self.now c.requires.single (ap (λ (s : SessionText). s.verdicts) (sym c.self.view_is)) (ap (λ (s : SessionText). s.commands) (sym c.self.view_is)) judged))
    (λ w. wears_told w (λ never. absurd (cc never)))

pub returns-clause-takes : goal.returns-clause-takes
returns-clause-takes g c =
    record {
      session = invariant_of-self g c;
      unchanged = search rules;
      commands = ap (λ (s : SessionText). s.commands) c.self.view_is;
      told = search rules;
    }

pub returns-in_err-name-clause-spares : goal.returns-in_err-name-clause-spares
returns-in_err-name-clause-spares g c =
    record {
      objects = λ honest. keeps_same _ _ refl;
      bad = λ honest. bad_same _ _ refl;
      packed = λ honest. inl refl;
    }

pub returns-in_err-found-clause-spares : goal.returns-in_err-found-clause-spares
returns-in_err-found-clause-spares g c =
    record {
      objects = λ honest. keeps_rest _ _ _ (c.in_err-found.ensures.updates.rest honest);
      bad = c.in_err-found.ensures.updates.bad;
      packed = λ honest. inl (c.in_err-found.ensures.updates.packed honest);
    }

pub returns-clause-spares : goal.returns-clause-spares
returns-clause-spares g c =
    record {
      objects = λ honest. keeps_rest _ _ _ (c.in_ok-found.ensures.updates.rest honest);
      bad = c.in_ok-found.ensures.updates.bad;
      packed = λ honest. inl (c.in_ok-found.ensures.updates.packed honest);
    }

pub returns-in_err-name-clause-early : goal.returns-in_err-name-clause-early
returns-in_err-name-clause-early g c = λ honest.
    let content = g.F.Files.content c.args.files.now in
    on_err c.from_residual.result _ (early_update content content c.args.self.now c.requires.single refl)

pub returns-in_err-found-clause-early : goal.returns-in_err-found-clause-early
returns-in_err-found-clause-early g c = λ honest.
    let content = g.F.Files.content in
    on_err c.from_residual-in_err-found.result _
    (early_update (content c.args.files.now) (content c.update.new.files) c.args.self.now c.requires.single (c.in_err-found.ensures.updates.err honest))
