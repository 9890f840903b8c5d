-- Where a step of a session may write, the machine's wants to.
use Rattle.std.proofs.Common.{◌≡◌, ◌≢◌, inl, inr, ℕ, suc, List, [], ◌∷◌, ◌++◌, length, map, drop, cond, Option, Some, None, refl, ap, sym, ◌∙◌, subst, arith, true≢false}
use Rattle.std.specs.Prelude.{IsSome, option_map}
use Rattle.std.specs.FinMap.{empty, get, get-empty}
use Rattle.std.specs.Ordering.{nat_cmp}
use Rattle.std.specs.Cmp.Lexicographic.{slice_cmp}
use Rattle.vc_files.specs.FileMap.{FileMap}
use Rattle.vc_format.specs.Git.{id_of_bytes}
use Rattle.vc_model.specs.Node.{Reply}
use Rattle.vc_model.specs.Node.Reply.{MigratedAll, Updated, UpdatedAll}
use Rattle.vc_model.specs.Object.{Objects}
use Rattle.vc_model.specs.Push as machine
use Rattle.vc_model.specs.Push.{Judged, OpenPush}
use Rattle.vc_model.specs.Push.Stage.{Migrated as MachineMigrated}
use Rattle.vc_model.specs.Repository.{Change, Effect, no_effect, only_changes}
use Rattle.vc_model.specs.Repository.Change.{SetRefs}
use Rattle.vc_model.specs.Shared as shared
use Rattle.vc_object.specs.Decoding.{StoredObject}
use Rattle.vc_object.specs.declared.id.ObjectId.{ObjectId}
use Rattle.vc_push.specs.Push.{CommandText}
use Rattle.vc_refs.specs.Refs.{refs}
use Rattle.vc_push_rules.specs.Carrying.{HoldsNames}
use Rattle.vc_push_rules.specs.Quarantine.{quarantined}
use Rattle.vc_push_rules.specs.Session.{verdict_of}
use Rattle.vc_push_rules.specs.declared.stage.Stage.TheVariants.{Unpacked, Checked, Migrated, Done as AtItsEnd}
use Rattle.vc_push_rules.specs.declared.stage.Verdict.TheVariants.{Passing, Accepted}
use Rattle.vc_rules.specs.Git.{git, stored_of}
use Rattle.vc_rules.specs.OpenPushes.{WritesAgree, judged_commands, machine_stage, machine_standing}
use Rattle.vc_rules.specs.Verdicts.{machine_command}
use Rattle.vc_rules.proofs.JudgedLemmas.{none_judged, split_judged}
use Rattle.vc_rules.proofs.TogetherLaws.{machine_founds, none_found, sets_together}
use Rattle.vc_rules.proofs.UpdateLaws.{changes_of, updates_agree}

-- what is carried under some name is something
some_carried : (content : FileMap) (slot : ℕ) (names : List ObjectId) (c : Objects) → HoldsNames content slot names → ((x : List ℕ) → quarantined content slot (id_of_bytes x) ≡ option_map stored_of (get c x)) → names ≢ [] → c ≢ empty
some_carried content slot [] c holds carried some none = some refl
some_carried content slot (id ∷ names) c holds carried some none =
    let there : IsSome (quarantined content slot (id_of_bytes id.0)) = holds.each id (0, omega arith, refl) in
    let nothing : quarantined content slot (id_of_bytes id.0) ≡ None = carried id.0 ∙ ap (option_map stored_of) (ap (λ (c : Objects). get c id.0) none ∙ get-empty (slice_cmp nat_cmp) id.0) in
    let gone : IsSome {T = StoredObject} None = subst (λ (o : Option StoredObject). IsSome o) nothing there in
    true≢false (sym gone)

sets : (x : Change) → only_changes (x ∷ []) ≢ no_effect
sets x e = let same : ◌≡◌ {A = List Change} (x ∷ []) [] = ap (λ (e : Effect). e.changes) e in cc same

pub writes_agree : WritesAgree
writes_agree content s Unpacked r p holds held is may = absurd may
writes_agree content s Checked r p holds held is may = inr (
  record { objects = p.carried; changes = [] },
  record p { stage = MachineMigrated },
  MigratedAll,
  subst (λ (at : machine.Stage). shared.StepsPush git r p at (record { objects = p.carried; changes = [] }) (record p { stage = MachineMigrated }) MigratedAll) (sym (held.stage ∙ ap machine_stage is)) (refl, refl, refl),
  λ e. some_carried content s.slot s.names p.carried held.names held.carried may (ap (λ (e : Effect). e.objects) e),
)
writes_agree content s Migrated r p holds held is (inl (single, front, back, c, before, first, command_is, passes)) =
    let ks : List Judged = judged_commands s.commands (front ++ verdict_of None ∷ back) in
    let cs : List Change = changes_of (refs content) r.refs holds.refs_are c None in
    let left : OpenPush = record p { commands = ks; stage = machine.stage_while ks MachineMigrated } in
    let next : shared.UpdatesNext r p.commands ks cs = record {
      front = judged_commands s.commands front;
      next = record { command = machine_command c; verdict = machine_standing Passing };
      back = judged_commands (drop (suc (length front)) s.commands) back;
      verdict = machine_standing (verdict_of None);
      before = held.commands ∙ ap (judged_commands s.commands) before ∙ split_judged s.commands front Passing back c command_is;
      first = none_judged s.commands front first;
      passing = refl;
      update = updates_agree (refs content) r.refs holds.refs_are c None passes;
      after = split_judged s.commands front (verdict_of None) back c command_is;
    } in
    inr (
      only_changes cs,
      left,
      Updated c.name None,
      subst (λ (at : machine.Stage). shared.StepsPush git r p at (only_changes cs) left (Updated c.name None)) (sym (held.stage ∙ ap machine_stage is))
          (ks, cs, shared.UpdatesPush.singly next (held.atomic ∙ single) refl, refl, refl),
      sets _,
    )
writes_agree content s Migrated r p holds held is (inr (atomic, (founds, judged, passed))) =
    let js : List Judged = judged_commands s.commands s.verdicts in
    let ks : List Judged = judged_commands s.commands (map (λ (c : CommandText). Accepted) s.commands) in
    let cs : List Change = SetRefs (map machine.new_value js) ∷ [] in
    let left : OpenPush = record p { commands = ks; stage = machine.stage_while ks MachineMigrated } in
    let reply : Reply = UpdatedAll (length p.commands) in
    inr (
      only_changes cs,
      left,
      reply,
      subst (λ (at : machine.Stage). shared.StepsPush git r p at (only_changes cs) left reply) (sym (held.stage ∙ ap machine_stage is)) (
        ks,
        cs,
        shared.UpdatesPush.together (machine_founds founds) (held.atomic ∙ atomic)
            (subst (λ (xs : List Judged). machine.UpdatesAll r.refs xs (machine_founds founds) ks cs) (sym held.commands)
            (sets_together (refs content) r.refs holds.refs_are s.commands s.verdicts held.session.paired founds judged passed))
            (ap (λ b. cond b (Some reply) (shared.first_refusal p.commands (machine_founds founds))) (none_found founds ∙ passed)),
        refl,
        refl,
      ),
      sets _,
    )
writes_agree content s AtItsEnd r p holds held is may = inl (held.stage ∙ ap machine_stage is)
