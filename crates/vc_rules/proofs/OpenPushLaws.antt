-- Each step of a session is a step of the push that it stands for.
use Rattle.std.proofs.Common.{◌≡◌, ◌⊎◌, inl, inr, ℕ, suc, List, ◌∷◌, map, length, drop, Option, Some, None, Bool, true, false, cond, refl, ap, sym, ◌∙◌, subst, []}
use Rattle.std.specs.Prelude.{option_map, is_some, is_none, IsSome, Ok, Err}
use Rattle.std.specs.FinMap.{empty, get, get-empty}
use Rattle.std.specs.List.{list_all}
use Rattle.std.specs.Option.{option_or}
use Rattle.std.specs.Ordering.{nat_cmp}
use Rattle.std.specs.Cmp.Lexicographic.{slice_cmp}
use Rattle.vc_files.specs.FileMap.{FileMap, SameOutside}
use Rattle.vc_format.specs.Git.{id_of_bytes}
use Rattle.vc_object_map.specs.Overlay.{with_carried}
use Rattle.vc_model.specs.Node.{Reply}
use Rattle.vc_model.specs.Node.Reply.{Passed, MigratedAll, Updated, UpdatedAll, RefusedAll}
use Rattle.vc_model.specs.Object.{Id, Object, Objects, over}
use Rattle.vc_model.specs.Push as machine
use Rattle.vc_model.specs.Push.{OpenPush, Judged}
use Rattle.vc_model.specs.Push.Stage.{Checked as MachineChecked, Migrated as MachineMigrated, Finished}
use Rattle.vc_model.specs.Refs.{RefName}
use Rattle.vc_model.specs.Repository.{Change, Repository, IsSound, changed_all, no_effect, only_changes, with_objects}
use Rattle.vc_model.specs.Repository.Change.{SetRefs}
use Rattle.vc_model.specs.Shared as shared
use Rattle.vc_model.proofs.Maps.{none_added}
use Rattle.vc_object.specs.Decoding.{StoredObject}
use Rattle.vc_object.specs.declared.fault.ObjectFault.{ObjectFault}
use Rattle.vc_object.specs.declared.id.ObjectId.{ObjectId}
use Rattle.vc_push.specs.Push.{Carried, CommandText, FaultOf}
use Rattle.vc_push.specs.Report.{ReportText, unpack_error}
use Rattle.vc_push.specs.ReportView.{report_text}
use Rattle.vc_push.specs.declared.reason.Reason.{Reason}
use Rattle.vc_refs.specs.Head.{KeepsTheRest}
use Rattle.vc_refs.specs.RefMap.{RefMap}
use Rattle.vc_refs.specs.Refs.{refs}
use Rattle.vc_object_map.specs.Store.{objects}
use Rattle.vc_push_rules.proofs.FrameLemmas.{objects-of_packed, objects-of_ref, objects-of_slot, quarantined-of_packed, quarantined-of_ref, quarantined-of_slot, refs-of_objects, refs-of_slot}
use Rattle.vc_push_rules.proofs.QuarantineLemmas.{quarantined-same}
use Rattle.vc_push_rules.proofs.TurnLemmas.{some_refused}
use Rattle.vc_push_rules.specs.Carrying.{HoldsNames, objects_of_push}
use Rattle.vc_push_rules.specs.Quarantine.{objects_seen, quarantine_folder, quarantined}
use Rattle.vc_push_rules.specs.Session.{IsSession, SessionText, fresh, stage_while, verdict_of}
use Rattle.vc_push_rules.specs.Steps.{names_of, EndsEarly, EndsUpdate, StepChecks, StepFinishes, StepMigrates, StepRefusesAll, StepSetsAll, StepUpdates, fault_number, unpack_of}
use Rattle.vc_push_rules.specs.Turn.{all_pass, refused_by}
use Rattle.vc_push_rules.specs.Verdict.{refs_after}
use Rattle.vc_push_rules.specs.declared.stage.Stage.{Stage}
use Rattle.vc_push_rules.specs.declared.stage.Stage.TheVariants.{Unpacked, Checked, Migrated, Done as AtItsEnd}
use Rattle.vc_push_rules.specs.declared.stage.Stepped.TheVariants as stepped
use Rattle.vc_push_rules.specs.declared.stage.Verdict.{Verdict}
use Rattle.vc_push_rules.specs.declared.stage.Verdict.TheVariants.{Passing, Accepted}
use Rattle.vc_rules.specs.Git.{git, stored_of}
use Rattle.vc_rules.specs.OpenPushes.{EndsEarlyAgree, HoldsContent, HoldsPush, IsPushEnd, IsPushStep, IsStop, OpensAgree, OthersStay, StepsAgree, judged_commands, machine_stage, machine_standing}
use Rattle.vc_rules.specs.Verdicts.{AreFoundAt, machine_command, machine_reason}
use Rattle.vc_rules.proofs.JoinLemmas.{joined, joined_all, joined_some, joined_where, joined_where_each}
use Rattle.vc_rules.proofs.JudgedLemmas.{any_judged, count_judged, none_judged, split_judged, stage_judged, tells_all}
use Rattle.vc_rules.proofs.RefLemmas.{set_rel}
use Rattle.vc_rules.proofs.SoundLemmas.{seen_sound}
use Rattle.vc_rules.proofs.TogetherLaws.{checks_together, first_told, machine_founds, many_judged, none_found, refuses_together, set_together, sets_together}
use Rattle.vc_rules.proofs.UpdateLaws.{changes_of, updates_agree}
use Rattle.vc_rules.proofs.WholeLemmas.{refs_whole}

-- ---- what is found
module _ (content : FileMap) (r : Repository) (held : HoldsContent content r) where
  either : (a b : Option Object) → option_or (option_map stored_of a) (option_map stored_of b) ≡ option_map stored_of (option_or a b)
  either None b = refl
  either (Some x) b = refl

  same_seen : (slot : ℕ) (c : Objects) → ((x : Id) → quarantined content slot (id_of_bytes x) ≡ option_map stored_of (get c x))
      → (x : Id) → objects_seen content slot (id_of_bytes x) ≡ option_map stored_of (over r.objects c x)
  unfolding with_carried
  same_seen slot c carried x =
      ap (λ o. option_or o (quarantined content slot (id_of_bytes x))) (held.objects_are x) ∙ ap (option_or (option_map stored_of (get r.objects x))) (carried x) ∙ either (get r.objects x) (get c x)

  seen_found : (slot : ℕ) (c : Objects) → ((x : Id) → quarantined content slot (id_of_bytes x) ≡ option_map stored_of (get c x)) → AreFoundAt (objects_seen content slot) (over r.objects c)
  seen_found slot c carried = record { same = same_seen slot c carried; sound = seen_sound content slot }

-- ---- what stays
-- a change in one slot's quarantine
pub content_beside : (slot : ℕ) (old new : FileMap) (r : Repository) → SameOutside (quarantine_folder slot) old new → HoldsContent old r → HoldsContent new r
content_beside slot old new r same held = record {
  objects_are = λ x. objects-of_slot slot old new same (id_of_bytes x) ∙ held.objects_are x;
  refs_are = λ n. ap (λ (m : RefMap). m n) (refs-of_slot slot old new same) ∙ held.refs_are n;
}

-- where a slot's quarantine is the same, it holds the same names, and its push is the same
names_kept : (old new : FileMap) (slot : ℕ) (names : List ObjectId) → ((id : ObjectId) → quarantined new slot id ≡ quarantined old slot id) → HoldsNames old slot names → HoldsNames new slot names
names_kept old new slot names same held = record {
  each = λ id among. subst IsSome (sym (same id)) (held.each id among);
  only = λ id there. held.only id (subst IsSome (same id) there);
}

pub push_kept : (old new : FileMap) (s : SessionText) (p : OpenPush) → ((id : ObjectId) → quarantined new s.slot id ≡ quarantined old s.slot id) → HoldsPush old s p → HoldsPush new s p
push_kept old new s p same held = record {
  session = held.session;
  atomic = held.atomic;
  fault = held.fault;
  commands = held.commands;
  carried = λ x. same (id_of_bytes x) ∙ held.carried x;
  names = names_kept old new s.slot s.names same held.names;
  stage = held.stage;
}

-- ---- a step
module _ (old new : FileMap) (s t : SessionText) (r : Repository) (p : OpenPush) (content : HoldsContent old r) (held : HoldsPush old s p) where
  -- what is held after a change of verdicts and stage
  kept : (ws : List Verdict) (stage : Stage) (ks : List Judged) (left : machine.Stage) → t ≡ record s { verdicts = ws; stage = stage } → IsSession t
      → ((id : ObjectId) → quarantined new s.slot id ≡ quarantined old s.slot id) → ks ≡ judged_commands s.commands ws → left ≡ machine_stage stage
      → HoldsPush new t (record p { commands = ks; stage = left })
  kept ws stage ks left is later same commands at = subst (λ (x : SessionText). HoldsPush new x (record p { commands = ks; stage = left })) (sym is) (record {
    session = subst IsSession is later;
    atomic = held.atomic;
    fault = held.fault;
    commands = commands;
    carried = λ x. same (id_of_bytes x) ∙ held.carried x;
    names = names_kept old new s.slot s.names same held.names;
    stage = at;
  })

  stands_at : (stage : Stage) → s.stage ≡ stage → p.stage ≡ machine_stage stage
  stands_at stage is = held.stage ∙ ap machine_stage is

  paired : (ws : List Verdict) (stage : Stage) → t ≡ record s { verdicts = ws; stage = stage } → IsSession t → length ws ≡ length s.commands
  paired ws stage is later = (subst IsSession is later).paired

  checked : (n : ℕ) → StepChecks old new s t n → IsSession t → IsPushStep new t (Passed n) r p
  checked n h later =
      let ks : List Judged = judged_commands s.commands t.verdicts in
      let left : OpenPush = record p { commands = ks; stage = machine.stage_while ks MachineChecked } in
      let fits : length t.verdicts ≡ length s.commands = paired t.verdicts (stage_while t.verdicts Checked) h.session later in
      let whole : IsSound git r → machine.ChecksPush git (over r.objects p.carried) p.atomic p.commands ks = λ sound.
      subst (λ (a : Bool). machine.ChecksPush git (over r.objects p.carried) a p.commands ks) (sym held.atomic)
      (subst (λ (js : List Judged). machine.ChecksPush git (over r.objects p.carried) s.atomic js ks) (sym held.commands)
      (checks_together (objects_seen old s.slot) (over r.objects p.carried) (seen_found old r content s.slot p.carried held.carried) s.atomic s.commands s.verdicts t.verdicts (h.verdicts (refs_whole old r content sound)))) in
      record {
        effect = no_effect;
        left = left;
        after = r;
        step = λ sound. subst (λ (at : machine.Stage). shared.StepsPush git r p at no_effect left (Passed n)) (sym (stands_at Unpacked h.stage))
            (ks, whole sound, refl, refl, ap Passed (h.passed ∙ sym (count_judged s.commands t.verdicts fits)));
        done = (r.objects, none_added r.objects, refl);
        content = subst (λ (m : FileMap). HoldsContent m r) (sym h.files) content;
        head = refl;
        index = refl;
        held = kept t.verdicts (stage_while t.verdicts Checked) ks (machine.stage_while ks MachineChecked) h.session later
            (λ id. ap (λ (m : FileMap). quarantined m s.slot id) h.files) refl (stage_judged s.commands t.verdicts Checked fits);
      }

  migrated : StepMigrates old new s t → IsSession t → IsPushStep new t MigratedAll r p
  migrated h later =
      let left : OpenPush = record p { stage = MachineMigrated } in
      record {
        effect = record { objects = p.carried; changes = [] };
        left = left;
        after = with_objects r (joined r.objects p.carried);
        step = λ sound. subst (λ (at : machine.Stage). shared.StepsPush git r p at (record { objects = p.carried; changes = [] }) left MigratedAll) (sym (stands_at Checked h.stage)) (refl, refl, refl);
        done = (joined r.objects p.carried, joined_all r.objects p.carried, refl);
        content = record {
          objects_are = λ x. h.stored (id_of_bytes x) ∙ (seen_found old r content s.slot p.carried held.carried).same x ∙ ap (option_map stored_of) (sym ((joined_all r.objects p.carried).each x));
          refs_are = λ n. ap (λ (m : RefMap). m n) (refs-of_objects old new h.outside) ∙ content.refs_are n;
        };
        head = refl;
        index = refl;
        held = kept s.verdicts Migrated p.commands MachineMigrated h.session later (quarantined-same old new s.slot h.outside) held.commands refl;
      }

  -- the refs after an update
  updated_content : (name : List ℕ) (c : CommandText) (found : Option Reason) → KeepsTheRest name old new → refs new ≡ refs_after (refs old) c found
      → HoldsContent new (changed_all (changes_of (refs old) r.refs content.refs_are c found) r)
  updated_content name c None rest are = record {
    objects_are = λ x. objects-of_ref name old new rest (id_of_bytes x) ∙ content.objects_are x;
    refs_are = λ n. ap (λ (m : RefMap). m n) are ∙ set_rel (refs old) r.refs content.refs_are c.name c.new n;
  }
  updated_content name c (Some reason) rest are = record {
    objects_are = λ x. objects-of_ref name old new rest (id_of_bytes x) ∙ content.objects_are x;
    refs_are = λ n. ap (λ (m : RefMap). m n) are ∙ content.refs_are n;
  }

  head_stays : (c : CommandText) (found : Option Reason) → (changed_all (changes_of (refs old) r.refs content.refs_are c found) r).head ≡ r.head
  head_stays c None = refl
  head_stays c (Some reason) = refl

  index_stays : (c : CommandText) (found : Option Reason) → (changed_all (changes_of (refs old) r.refs content.refs_are c found) r).index ≡ r.index
  index_stays c None = refl
  index_stays c (Some reason) = refl

  told : (found : Option Reason) → option_map machine_reason found ≡ shared.refusal_of (machine_standing (verdict_of found))
  told None = refl
  told (Some reason) = refl

  updated : (name : List ℕ) (found : Option Reason) → StepUpdates old new s t name found → IsSession t → IsPushStep new t (Updated name (option_map machine_reason found)) r p
  updated name found h later =
      let u = h.update in
      let c : CommandText = u.command in
      let ks : List Judged = judged_commands s.commands t.verdicts in
      let cs : List Change = changes_of (refs old) r.refs content.refs_are c found in
      let left : OpenPush = record p { commands = ks; stage = machine.stage_while ks MachineMigrated } in
      let fits : length t.verdicts ≡ length s.commands = paired t.verdicts (stage_while t.verdicts Migrated) h.session later in
      let next : shared.UpdatesNext r p.commands ks cs = record {
        front = judged_commands s.commands u.front;
        next = record { command = machine_command c; verdict = machine_standing Passing };
        back = judged_commands (drop (suc (length u.front)) s.commands) u.back;
        verdict = machine_standing (verdict_of found);
        before = held.commands ∙ ap (judged_commands s.commands) u.before ∙ split_judged s.commands u.front Passing u.back c u.command_is;
        first = none_judged s.commands u.front u.first;
        passing = refl;
        update = updates_agree (refs old) r.refs content.refs_are c found u.judged;
        after = ap (judged_commands s.commands) u.after ∙ split_judged s.commands u.front (verdict_of found) u.back c u.command_is;
      } in
      let reply : ◌≡◌ {A = Reply} (Updated name (option_map machine_reason found)) (Updated c.name (shared.refusal_of (machine_standing (verdict_of found)))) =
      ap (λ (n : RefName). Updated n (option_map machine_reason found)) u.named ∙ ap (Updated c.name) (told found) in
      record {
        effect = only_changes cs;
        left = left;
        after = changed_all cs r;
        step = λ sound. subst (λ (at : machine.Stage). shared.StepsPush git r p at (only_changes cs) left (Updated name (option_map machine_reason found))) (sym (stands_at Migrated h.stage))
            (ks, cs, shared.UpdatesPush.singly next (held.atomic ∙ h.single) reply, refl, refl);
        done = (r.objects, none_added r.objects, refl);
        content = updated_content name c found h.rest u.refs_are;
        head = head_stays c found;
        index = index_stays c found;
        held = kept t.verdicts (stage_while t.verdicts Migrated) ks (machine.stage_while ks MachineMigrated) h.session later
            (quarantined-of_ref name old new h.rest s.slot) refl (stage_judged s.commands t.verdicts Migrated fits);
      }

  -- ---- the update of an atomic push
  -- all commands are judged, and these are the changes
  settled : (ws : List Verdict) (founds : List (Option Reason)) (cs : List Change) (reply : Reply) → s.stage ≡ Migrated → s.atomic ≡ true → t ≡ record s { verdicts = ws; stage = AtItsEnd } → IsSession t
      → machine.UpdatesAll r.refs (judged_commands s.commands s.verdicts) (machine_founds founds) (judged_commands s.commands ws) cs
      → cond (list_all is_none (machine_founds founds)) (Some (UpdatedAll (length p.commands))) (shared.first_refusal p.commands (machine_founds founds)) ≡ Some reply
      → ((id : ObjectId) → quarantined new s.slot id ≡ quarantined old s.slot id) → HoldsContent new (changed_all cs r) → (changed_all cs r).head ≡ r.head → (changed_all cs r).index ≡ r.index
      → IsPushStep new t reply r p
  settled ws founds cs reply stage atomic is later all told same content_then head index =
      let ks : List Judged = judged_commands s.commands ws in
      let left : OpenPush = record p { commands = ks; stage = machine.stage_while ks MachineMigrated } in
      let then : IsSession (record s { verdicts = ws; stage = AtItsEnd }) = subst IsSession is later in
      record {
        effect = only_changes cs;
        left = left;
        after = changed_all cs r;
        step = λ sound. subst (λ (at : machine.Stage). shared.StepsPush git r p at (only_changes cs) left reply) (sym (stands_at Migrated stage)) (
          ks,
          cs,
          shared.UpdatesPush.together (machine_founds founds) (held.atomic ∙ atomic)
              (subst (λ (xs : List Judged). machine.UpdatesAll r.refs xs (machine_founds founds) ks cs) (sym held.commands) all) told,
          refl,
          refl,
        );
        done = (r.objects, none_added r.objects, refl);
        content = content_then;
        head = head;
        index = index;
        held = kept ws AtItsEnd ks (machine.stage_while ks MachineMigrated) is later same refl
            (ap (λ b. cond b MachineMigrated Finished) (any_judged s.commands ws then.paired ∙ then.in_stage));
      }

  set_all : (n : ℕ) → StepSetsAll old new s t n → IsSession t → IsPushStep new t (UpdatedAll n) r p
  set_all n h later =
      let js : List Judged = judged_commands s.commands s.verdicts in
      let founds : List (Option Reason) = h.passed.0 in
      settled (map (λ (c : CommandText). Accepted) s.commands) founds (SetRefs (map machine.new_value js) ∷ []) (UpdatedAll n) h.stage h.atomic h.session later
      (sets_together (refs old) r.refs content.refs_are s.commands s.verdicts held.session.paired founds h.passed.1 h.passed.2)
      (ap (λ b. cond b (Some (UpdatedAll (length p.commands))) (shared.first_refusal p.commands (machine_founds founds))) (none_found founds ∙ h.passed.2)
      ∙ ap (λ (k : ℕ). Some (UpdatedAll k)) (ap length held.commands ∙ many_judged s.commands s.verdicts held.session.paired ∙ sym h.count))
      (quarantined-of_packed old new h.rest.outside s.slot) (record {
        objects_are = λ x. objects-of_packed old new h.rest.outside (id_of_bytes x) ∙ content.objects_are x;
        refs_are = λ q. ap (λ (m : RefMap). m q) h.refs_are ∙ set_together s.commands s.verdicts (refs old) r.refs content.refs_are held.session.paired q;
      }) refl refl

  refused_all : (name : List ℕ) (reason : Reason) → StepRefusesAll old new s t name reason → IsSession t → IsPushStep new t (RefusedAll name (machine_reason reason)) r p
  refused_all name reason h later =
      let some : all_pass h.founds ≡ false = some_refused s.commands h.founds (name, reason) h.first in
      settled (map refused_by h.founds) h.founds [] (RefusedAll name (machine_reason reason)) h.stage h.atomic h.session later
      (refuses_together (refs old) r.refs content.refs_are s.commands s.verdicts held.session.paired h.founds h.judged some)
      (ap (λ b. cond b (Some (UpdatedAll (length p.commands))) (shared.first_refusal p.commands (machine_founds h.founds))) (none_found h.founds ∙ some)
      ∙ ap (λ (js : List Judged). shared.first_refusal js (machine_founds h.founds)) held.commands
      ∙ first_told s.commands s.verdicts h.founds (name, reason) held.session.paired h.first)
      (λ id. ap (λ (m : FileMap). quarantined m s.slot id) h.files) (subst (λ (m : FileMap). HoldsContent m r) (sym h.files) content) refl refl

  unpacked : (fault : Option ObjectFault) → unpack_of fault ≡ option_map unpack_error (option_map fault_number fault)
  unpacked None = refl
  unpacked (Some fault) = refl

  finished : (report : ReportText) → StepFinishes old new s t report → IsPushEnd new report r p
  finished report h =
      let all = tells_all s.commands s.verdicts report.told h.report_is.told in
      record {
        told = all.0;
        finished = stands_at AtItsEnd h.stage;
        tells = subst (λ (js : List Judged). shared.TellsAll js all.0) (sym held.commands) all.1;
        unpack = h.report_is.unpack ∙ unpacked s.fault ∙ ap (option_map unpack_error) (sym held.fault);
        told_as = all.2;
        content = content_beside s.slot old new r h.outside content;
      }

pub steps_agree : StepsAgree
steps_agree old new s t (stepped.Checked n) r p content held h later = checked old new s t r p content held n h later
steps_agree old new s t stepped.Migrated r p content held h later = migrated old new s t r p content held h later
steps_agree old new s t (stepped.Updated name found) r p content held h later = updated old new s t r p content held name.items found h later
steps_agree old new s t (stepped.Atomic n) r p content held h later = set_all old new s t r p content held n h later
steps_agree old new s t (stepped.AtomicRefused name reason) r p content held h later = refused_all old new s t r p content held name.items reason h later
steps_agree old new s t (stepped.Finished report) r p content held h later = finished old new s t r p content held (report_text report) h

pub others_stay : OthersStay
others_stay old new s t u (stepped.Checked n) q small fits apart h held = subst (λ (m : FileMap). HoldsPush m u q) (sym h.files) held
others_stay old new s t u stepped.Migrated q small fits apart h held = push_kept old new u q (quarantined-same old new u.slot h.outside) held
others_stay old new s t u (stepped.Updated name found) q small fits apart h held = push_kept old new u q (quarantined-of_ref name.items old new h.rest u.slot) held
others_stay old new s t u (stepped.Atomic n) q small fits apart h held = push_kept old new u q (quarantined-of_packed old new h.rest.outside u.slot) held
others_stay old new s t u (stepped.AtomicRefused name reason) q small fits apart h held = subst (λ (m : FileMap). HoldsPush m u q) (sym h.files) held
others_stay old new s t u (stepped.Finished report) q small fits apart h held =
    push_kept old new u q (λ id. quarantined-of_slot s.slot old new h.outside u.slot id small fits apart) held

-- ---- the opening
fresh_judged : (fault : Option ObjectFault) (cs : List CommandText) → map (shared.fresh (option_map fault_number fault)) (map machine_command cs) ≡ judged_commands cs (map (λ c. fresh fault) cs)
fresh_judged fault [] = refl
fresh_judged None (c ∷ cs) = ap (λ js. shared.fresh None (machine_command c) ∷ js) (fresh_judged None cs)
fresh_judged (Some fault) (c ∷ cs) = ap (λ js. shared.fresh (Some (fault_number fault)) (machine_command c) ∷ js) (fresh_judged (Some fault) cs)

-- nothing is carried where a body is at fault
brought : (carried : Carried) (fault : Option ObjectFault) (c : Objects) (x : Id) → FaultOf carried fault → option_map stored_of (get c x) ≡ objects_of_push carried (id_of_bytes x)
    → objects_of_push carried (id_of_bytes x) ≡ option_map stored_of (get (cond (is_none (option_map fault_number fault)) c empty) x)
brought carried None c x faulty made = sym made
brought (Ok all) (Some fault) c x faulty made = absurd (cc faulty)
brought (Err bad) (Some fault) c x faulty made = ap (option_map stored_of) (sym (get-empty (slice_cmp nat_cmp) x))

pub opens_agree : OpensAgree
opens_agree content s slot fault atomic commands carried c opened session faulty carries made = record {
  session = session;
  atomic = sym opened.atomic_is;
  fault = ap (option_map fault_number) (sym opened.fault_is);
  commands = fresh_judged fault commands ∙ ap (λ cs. judged_commands cs (map (λ d. fresh fault) commands)) (sym opened.commands_are) ∙ ap (judged_commands s.commands) (sym opened.verdicts_are);
  carried = λ x. ap (λ (n : ℕ). quarantined content n (id_of_bytes x)) opened.slot_is ∙ carries.same (id_of_bytes x) ∙ brought carried fault c x faulty (made x);
  names = subst (λ (n : ℕ). HoldsNames content n s.names) (sym opened.slot_is) carries.holds;
  stage = sym (ap machine_stage opened.stage_is);
}

-- ---- a step that ends early
-- an object that stands there afterwards stood there, or is one of those that are carried
pub some_stored : (now : Option StoredObject) (a b : Option Object) → (now ≡ option_map stored_of a) ⊎ (now ≡ option_map stored_of (option_or a b)) → now ≡ option_map stored_of (option_or a (cond (is_some now) b None))
some_stored None None b h = refl
some_stored None (Some x) b (inl e) = e
some_stored None (Some x) b (inr e) = e
some_stored (Some y) None b (inl e) = absurd (cc e)
some_stored (Some y) None b (inr e) = e
some_stored (Some y) (Some x) b (inl e) = e
some_stored (Some y) (Some x) b (inr e) = e

module _ (old new : FileMap) (s : SessionText) (r : Repository) (p : OpenPush) (content : HoldsContent old r) (held : HoldsPush old s p) where
  stopped : EndsEarly old new s Checked → IsStop new r (record { objects = p.carried; changes = [] })
  stopped e = record {
    after = with_objects r some;
    stops = inl (some, joined_some r.objects p.carried keep, refl);
    content = record { objects_are = stored_then; refs_are = λ n. ap (λ (m : RefMap). m n) (refs-of_objects old new e.1) ∙ content.refs_are n };
    head = refl;
    index = refl;
  }
    where
      keep : Id → Bool
      keep x = is_some (objects new (id_of_bytes x))

      some : Objects
      some = joined_where r.objects p.carried keep

      by : (x : Id) → (objects new (id_of_bytes x) ≡ objects old (id_of_bytes x)) ⊎ (objects new (id_of_bytes x) ≡ objects_seen old s.slot (id_of_bytes x))
          → (objects new (id_of_bytes x) ≡ option_map stored_of (get r.objects x)) ⊎ (objects new (id_of_bytes x) ≡ option_map stored_of (over r.objects p.carried x))
      by x (inl h) = inl (h ∙ content.objects_are x)
      by x (inr h) = inr (h ∙ same_seen old r content s.slot p.carried held.carried x)

      stored_then : (x : Id) → objects new (id_of_bytes x) ≡ option_map stored_of (get some x)
      stored_then x =
          some_stored (objects new (id_of_bytes x)) (get r.objects x) (get p.carried x) (by x (e.0 (id_of_bytes x)))
          ∙ ap (option_map stored_of) (sym (joined_where_each r.objects p.carried keep x))

  unchanged : new ≡ old → HoldsContent new r
  unchanged same = subst (λ (m : FileMap). HoldsContent m r) (sym same) content

  -- refs may stand in other files
  updated_early : (atomic : Bool) (names : List (List ℕ)) → EndsUpdate atomic names old new → HoldsContent new r
  updated_early false names same = unchanged same
  updated_early true names (same, rest) = record {
    objects_are = λ x. objects-of_packed old new rest.outside (id_of_bytes x) ∙ content.objects_are x;
    refs_are = λ n. ap (λ (m : RefMap). m n) same ∙ content.refs_are n;
  }

pub early_agree : EndsEarlyAgree
early_agree old new s Unpacked r p content held e = unchanged old new s r p content held e
early_agree old new s Checked r p content held e = stopped old new s r p content held e
early_agree old new s Migrated r p content held e = updated_early old new s r p content held s.atomic (names_of s.commands) e
early_agree old new s AtItsEnd r p content held e = content_beside s.slot old new r e content
