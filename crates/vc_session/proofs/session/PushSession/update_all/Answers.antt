use Rattle.std.proofs.Common.{rules, ◌≡◌, ap, inl, inr, refl, subst, sym, ◌∙◌, true, length, List, Option, Some, None, ℕ}
use Rattle.std.proofs.lemmas.List.{length-map}
use Rattle.vc_files.proofs.WearLemmas.{wears_then, wears_writes, writes_told}
use Rattle.vc_files.specs.FileMap.{FileMap}
use Rattle.vc_lemmas.proofs.Lists.{on_err}
use Rattle.vc_push.specs.Push.{CommandText}
use Rattle.vc_push.specs.PushView.{command_of, commands_of}
use Rattle.vc_push.specs.declared.command.Command.{Command}
use Rattle.vc_push.specs.declared.reason.Reason.{Reason}
use Rattle.vc_push_rules.specs.Session.{SessionText}
use Rattle.vc_push_rules.specs.Steps.{names_of, KeepsUnnamed, StepRefusesAll, StepSetsAll}
use Rattle.vc_push_rules.specs.Turn.{with_new, PassInTurn}
use Rattle.vc_push_rules.specs.declared.stage.Stage.TheVariants.{Done, Migrated}
use Rattle.vc_quarantine.proofs.CleanLemmas.{bad_outside, bad_same}
use Rattle.vc_history.proofs.StoredLemmas.{keeps_same}
use Rattle.vc_quarantine.proofs.KeepingLemmas.{keeps_outside}
use Rattle.vc_quarantine.proofs.WearLemmas.{wears_told}
use Rattle.vc_refs.specs.Head.{KeepsOutside}
use Rattle.vc_refs.specs.Refs.{packed_map, refs, SpellsRefs}
use Rattle.vc_session.proofs.AtomicLemmas.{early_all, early_same, judged_of, pass_in_turn, session_settled, step_refuses, step_sets, to_be_set}
use Rattle.vc_session.proofs.TogetherLemmas.{refused_update}
use Rattle.vc_session.specs.SessionFault.{IsRefusedStep, IsRefusedUpdate}
use Rattle.vc_session.specs.Together.{refusal_told, AreToBeSet, IsJudged}
use Rattle.vc_session.specs.contracts.session.PushSession.{the_view}
use Rattle.vc_session.proofs.session.PushSession.update_all.Goals as goal

pub judge_all-requires : goal.judge_all-requires
judge_all-requires g c =
    let t : SessionText = the_view c.self.inside in
    let stage : t.stage ≡ Migrated = ap (λ (s : SessionText). s.stage) c.self.view_is ∙ c.requires.stage in
    let atomic : t.atomic ≡ true = ap (λ (s : SessionText). s.atomic) c.self.view_is ∙ c.requires.atomic in
    subst (λ (cs : List Command). AreToBeSet (commands_of cs)) (sym c.deref.ensures.value) (to_be_set t c.self.invariant stage atomic)

pub set_passed-requires : goal.set_passed-requires
set_passed-requires g c =
    let t : SessionText = the_view c.self.inside in
    let stage : t.stage ≡ Migrated = ap (λ (s : SessionText). s.stage) c.self.view_is ∙ c.requires.stage in
    let atomic : t.atomic ≡ true = ap (λ (s : SessionText). s.atomic) c.self.view_is ∙ c.requires.atomic in
    subst (λ (cs : List Command). AreToBeSet (commands_of cs)) (sym c.deref-2.ensures.value) (to_be_set t c.self.invariant stage atomic)

-- ---- if the refs can't be read
pub returns-in_err-made-clause-early : goal.returns-in_err-made-clause-early
returns-in_err-made-clause-early g c = λ honest.
    let content = g.F.Files.content in
    on_err c.from_residual.result _ (early_same (content c.args.files.now) (content c.judge_all.new.files) c.args.self.now c.requires.atomic c.in_err-made.ensures.same)

pub returns-in_err-made-clause-refused : goal.returns-in_err-made-clause-refused
returns-in_err-made-clause-refused g c = λ honest.
    let content = g.F.Files.content c.args.files.now in
    let e = c.in_err-made.field-0.0 in
    let told : IsRefusedStep content c.args.self.now Migrated e = refused_update content c.args.self.now e (c.in_err-made.ensures.refused honest) in
    search (rules, told)

pub returns-in_err-made-clause-spares : goal.returns-in_err-made-clause-spares
returns-in_err-made-clause-spares g c =
    record {
      objects = λ honest. keeps_same _ _ c.in_err-made.ensures.same;
      bad = λ honest. bad_same _ _ c.in_err-made.ensures.same;
      packed = λ honest. inl (ap packed_map c.in_err-made.ensures.same);
    }

pub returns-in_err-made-clause-wear : goal.returns-in_err-made-clause-wear
returns-in_err-made-clause-wear g c = writes_told (wears_writes c.in_err-made.ensures.wear (λ _. c.in_err-made.ensures.same)) (search rules) (search rules)

pub returns-in_err-made-clause-looks : goal.returns-in_err-made-clause-looks
returns-in_err-made-clause-looks g c = λ honest. inr (wears_told c.in_err-made.ensures.wear (search rules))

-- ---- if one command has a cause of its own
pub returns-in-Some-clause-steps : goal.returns-in-Some-clause-steps
returns-in-Some-clause-steps g c = λ honest.
    let content = g.F.Files.content in
    let old = content c.args.files.now in
    let new = content c.judge_all.new.files in
    let t : SessionText = the_view c.self.inside in
    let stage : t.stage ≡ Migrated = ap (λ (s : SessionText). s.stage) c.self.view_is ∙ c.requires.stage in
    let atomic : t.atomic ≡ true = ap (λ (s : SessionText). s.atomic) c.self.view_is ∙ c.requires.atomic in
    let ws = c.in_ok-made.made.verdicts.items in
    let refused = c.in_ok-made.made.refused in
    let told : Option (List ℕ × Reason) = Some (c.in-Some.name.items, c.in-Some.reason) in
    let judged = c.in_ok-made.ensures.judged in
    let one : IsJudged (refs old) t.commands ws told = judged_of judged.0 (refs old) c.deref.result.now c.self.inside.commands.items ws (refusal_told refused) told (judged.2 honest) c.deref.ensures.value (ap refusal_told c.in-Some.is) judged.1 in
    subst (λ (s : SessionText). StepRefusesAll old new s (record t { verdicts = ws; stage = Done }) c.in-Some.name.items c.in-Some.reason) c.self.view_is
    (step_refuses old new t stage atomic ws c.in-Some.name.items c.in-Some.reason one c.in_ok-made.ensures.same)

pub invariant_of-self : goal.invariant_of-self
invariant_of-self g c =
    let t : SessionText = the_view c.self.inside in
    let ws = c.in_ok-made.made.verdicts.items in
    let told = refusal_told c.in_ok-made.made.refused in
    let judged = c.in_ok-made.ensures.judged in
    session_settled t judged.0 ws told (judged_of judged.0 judged.0 c.deref.result.now c.self.inside.commands.items ws told told refl c.deref.ensures.value refl judged.1)

pub returns-in-Some-clause-takes : goal.returns-in-Some-clause-takes
returns-in-Some-clause-takes g c =
    record {
      session = invariant_of-self g c;
      unchanged = search rules;
      commands = ap (λ (s : SessionText). s.commands) c.self.view_is;
      told = search rules;
    }

pub returns-in-Some-clause-spares : goal.returns-in-Some-clause-spares
returns-in-Some-clause-spares g c =
    record {
      objects = λ honest. keeps_same _ _ c.in_ok-made.ensures.same;
      bad = λ honest. bad_same _ _ c.in_ok-made.ensures.same;
      packed = λ honest. inl (ap packed_map c.in_ok-made.ensures.same);
    }

pub returns-in-Some-clause-wear : goal.returns-in-Some-clause-wear
returns-in-Some-clause-wear g c = writes_told (wears_writes c.in_ok-made.ensures.wear (λ _. c.in_ok-made.ensures.same)) (λ never. absurd (cc never)) (λ never. absurd (cc never))

pub returns-in-Some-clause-looks : goal.returns-in-Some-clause-looks
returns-in-Some-clause-looks g c = λ honest. inr (wears_told c.in_ok-made.ensures.wear (λ never. absurd (cc never)))

-- ---- if the write ends early
pub returns-in_err-set_passed-clause-early : goal.returns-in_err-set_passed-clause-early
returns-in_err-set_passed-clause-early g c = λ honest.
    let content = g.F.Files.content in
    let same = c.in_ok-made.ensures.same in
    let new = content c.set_passed.new.files in
    let kept = c.in_err-set_passed.ensures.err honest ∙ ap refs same in
    let rest = subst (λ (m : FileMap). KeepsUnnamed (names_of (commands_of c.deref-2.result.now)) m new) same (c.in_err-set_passed.ensures.rest honest) in
    let held : commands_of c.deref-2.result.now ≡ c.args.self.now.commands = ap commands_of c.deref-2.ensures.value ∙ ap (λ (s : SessionText). s.commands) c.self.view_is in
    let named : KeepsUnnamed (names_of c.args.self.now.commands) (content c.args.files.now) new = subst (λ (cs : List CommandText). KeepsUnnamed (names_of cs) (content c.args.files.now) new) held rest in
    on_err c.from_residual-in_err-set_passed.result _ (early_all (content c.args.files.now) new c.args.self.now c.requires.atomic kept named)

pub returns-in_err-set_passed-clause-refused : goal.returns-in_err-set_passed-clause-refused
returns-in_err-set_passed-clause-refused g c = λ honest.
    let content = g.F.Files.content in
    let old = content c.args.files.now in
    let same = c.in_ok-made.ensures.same in
    let ws = c.in_ok-made.made.verdicts.items in
    let refused = c.in_ok-made.made.refused in
    let none : refused ≡ None = search rules in
    let judged = c.in_ok-made.ensures.judged in
    let held : c.deref.result.now ≡ c.deref-2.result.now = c.deref.ensures.value ∙ sym c.deref-2.ensures.value in
    let one : IsJudged (refs old) (commands_of c.deref-2.result.now) ws None = judged_of judged.0 (refs old) c.deref.result.now c.deref-2.result.now ws (refusal_told refused) None (judged.2 honest) held (ap refusal_told none) judged.1 in
    let pass = pass_in_turn (refs old) (commands_of c.deref-2.result.now) ws one in
    let e = c.in_err-set_passed.field-0.0 in
    let then : IsRefusedUpdate old e =
    subst (λ (m : FileMap). SpellsRefs m → PassInTurn (refs m) (commands_of c.deref-2.result.now) → IsRefusedUpdate m e) same (c.in_err-set_passed.ensures.refused honest) (c.in_ok-made.ensures.good honest) pass in
    let told : IsRefusedStep old c.args.self.now Migrated e = refused_update old c.args.self.now e then in
    search (rules, told)

pub returns-in_err-set_passed-clause-spares : goal.returns-in_err-set_passed-clause-spares
returns-in_err-set_passed-clause-spares g c =
    let content = g.F.Files.content in
    let same = c.in_ok-made.ensures.same in
    let new = content c.set_passed.new.files in
    let rest : g.F.Files.honest → KeepsOutside (content c.args.files.now) new = λ honest.
    (subst (λ (m : FileMap). KeepsUnnamed (names_of (commands_of c.deref-2.result.now)) m new) same (c.in_err-set_passed.ensures.rest honest)).outside in
    record {
      objects = λ honest. keeps_outside _ _ (rest honest);
      bad = λ honest. bad_outside _ _ (rest honest);
      packed = λ honest. inr (c.requires.atomic, rest honest);
    }

pub returns-in_err-set_passed-clause-wear : goal.returns-in_err-set_passed-clause-wear
returns-in_err-set_passed-clause-wear g c = wears_then c.in_ok-made.ensures.wear (λ _. c.in_ok-made.ensures.same) (λ never. absurd (cc never)) (writes_told c.in_err-set_passed.ensures.wear (search rules) (search rules))

pub returns-in_err-set_passed-clause-looks : goal.returns-in_err-set_passed-clause-looks
returns-in_err-set_passed-clause-looks g c = λ honest.
    let old = g.F.Files.content c.args.files.now in
    let t : SessionText = the_view c.self.inside in
    let ws = c.in_ok-made.made.verdicts.items in
    let refused = c.in_ok-made.made.refused in
    let none : refused ≡ None = search rules in
    let judged = c.in_ok-made.ensures.judged in
    let one : IsJudged (refs old) t.commands ws None = judged_of judged.0 (refs old) c.deref.result.now c.self.inside.commands.items ws (refusal_told refused) None (judged.2 honest) c.deref.ensures.value (ap refusal_told none) judged.1 in
    inl (inr (c.requires.atomic, subst (λ (s : SessionText). PassInTurn (refs old) s.commands) c.self.view_is (pass_in_turn (refs old) t.commands ws one)))

-- ---- if all are set
pub returns-clause-steps : goal.returns-clause-steps
returns-clause-steps g c = λ honest.
    let content = g.F.Files.content in
    let old = content c.args.files.now in
    let new = content c.set_passed.new.files in
    let same = c.in_ok-made.ensures.same in
    let t : SessionText = the_view c.self.inside in
    let stage : t.stage ≡ Migrated = ap (λ (s : SessionText). s.stage) c.self.view_is ∙ c.requires.stage in
    let atomic : t.atomic ≡ true = ap (λ (s : SessionText). s.atomic) c.self.view_is ∙ c.requires.atomic in
    let ws = c.in_ok-made.made.verdicts.items in
    let refused = c.in_ok-made.made.refused in
    let none : refused ≡ None = search rules in
    let judged = c.in_ok-made.ensures.judged in
    let one : IsJudged (refs old) t.commands ws None = judged_of judged.0 (refs old) c.deref.result.now c.self.inside.commands.items ws (refusal_told refused) None (judged.2 honest) c.deref.ensures.value (ap refusal_told none) judged.1 in
    let held : c.deref-2.result.now ≡ c.self.inside.commands.items = c.deref-2.ensures.value in
    let set : refs new ≡ with_new (refs old) t.commands =
    c.in_ok-set_passed.ensures.set honest ∙ ap (λ (m : FileMap). with_new (refs m) (commands_of c.deref-2.result.now)) same ∙ ap (λ (cs : List Command). with_new (refs old) (commands_of cs)) held in
    let rest : KeepsUnnamed (names_of t.commands) old new =
    subst (λ (cs : List Command). KeepsUnnamed (names_of (commands_of cs)) old new) held (subst (λ (m : FileMap). KeepsUnnamed (names_of (commands_of c.deref-2.result.now)) m new) same (c.in_ok-set_passed.ensures.rest honest)) in
    let count : c.len.result ≡ length t.commands = c.len.ensures ∙ c.self.inside.commands.ok.0 ∙ sym (length-map c.self.inside.commands.items command_of) in
    subst (λ (s : SessionText). StepSetsAll old new s (record t { verdicts = ws; stage = Done }) c.len.result) c.self.view_is (step_sets old new t stage atomic ws c.len.result one set rest count)

pub invariant_of-self-2 : goal.invariant_of-self-2
invariant_of-self-2 g c =
    let t : SessionText = the_view c.self.inside in
    let ws = c.in_ok-made.made.verdicts.items in
    let told = refusal_told c.in_ok-made.made.refused in
    let judged = c.in_ok-made.ensures.judged in
    session_settled t judged.0 ws told (judged_of judged.0 judged.0 c.deref.result.now c.self.inside.commands.items ws told told refl c.deref.ensures.value refl judged.1)

pub returns-clause-takes : goal.returns-clause-takes
returns-clause-takes g c =
    record {
      session = invariant_of-self-2 g c;
      unchanged = search rules;
      commands = ap (λ (s : SessionText). s.commands) c.self.view_is;
      told = search rules;
    }

pub returns-clause-spares : goal.returns-clause-spares
returns-clause-spares g c =
    let content = g.F.Files.content in
    let same = c.in_ok-made.ensures.same in
    let new = content c.set_passed.new.files in
    let rest : g.F.Files.honest → KeepsOutside (content c.args.files.now) new = λ honest.
    (subst (λ (m : FileMap). KeepsUnnamed (names_of (commands_of c.deref-2.result.now)) m new) same (c.in_ok-set_passed.ensures.rest honest)).outside in
    record {
      objects = λ honest. keeps_outside _ _ (rest honest);
      bad = λ honest. bad_outside _ _ (rest honest);
      packed = λ honest. inr (c.requires.atomic, rest honest);
    }

pub returns-clause-wear : goal.returns-clause-wear
returns-clause-wear g c = wears_then c.in_ok-made.ensures.wear (λ _. c.in_ok-made.ensures.same) (λ never. absurd (cc never)) (writes_told c.in_ok-set_passed.ensures.wear (λ never. absurd (cc never)) (λ never. absurd (cc never)))

pub returns-clause-looks : goal.returns-clause-looks
returns-clause-looks g c = λ honest.
    let old = g.F.Files.content c.args.files.now in
    let t : SessionText = the_view c.self.inside in
    let ws = c.in_ok-made.made.verdicts.items in
    let refused = c.in_ok-made.made.refused in
    let none : refused ≡ None = search rules in
    let judged = c.in_ok-made.ensures.judged in
    let one : IsJudged (refs old) t.commands ws None = judged_of judged.0 (refs old) c.deref.result.now c.self.inside.commands.items ws (refusal_told refused) None (judged.2 honest) c.deref.ensures.value (ap refusal_told none) judged.1 in
    inl (inr (c.requires.atomic, subst (λ (s : SessionText). PassInTurn (refs old) s.commands) c.self.view_is (pass_in_turn (refs old) t.commands ws one)))
