-- The verdicts of a push, as one of them is settled after another, and what a step's parts say of the whole step.
use Rattle.std.proofs.Common.{arith, ◌≡◌, ◌⊎◌, inl, inr, ℕ, zero, suc, ◌+◌, ◌<◌, Bool, cond, true, false, List, ◌∷◌, ◌++◌, length, map, take, drop, get_or, Option, Some, None, refl, ap, sym, ◌∙◌, subst, slice_set, []}
use Rattle.std.specs.Prelude.{slice_get, option_map}
use Rattle.std.specs.List.{list_any}
use Rattle.std.proofs.lemmas.List.{length-map, length-take-le, take-append-drop, take-set, drop-set, drop_more}
use Rattle.std.proofs.lemmas.List.Folds.{list_any_at}
use Rattle.std.proofs.lemmas.Option.{slice_get_read, slice_get_within, slice_get-map, get_or_from_slice_get}
use Rattle.vc_files.specs.Failures.{Writes}
use Rattle.vc_files.specs.FileMap.{FileMap}
use Rattle.vc_object.specs.declared.id.ObjectId.{ObjectId}
use Rattle.vc_push.specs.Push.{Carried, CommandText}
use Rattle.vc_push.specs.PushView.{command_of, commands_of}
use Rattle.vc_push.specs.declared.command.Command.{Command}
use Rattle.vc_push.specs.declared.reason.Reason.{Reason}
use Rattle.vc_refs.specs.RefMap.{RefMap}
use Rattle.vc_refs.specs.Refs.{refs}
use Rattle.vc_object_map.specs.declared.faults.StoreFault.{StoreFault}
use Rattle.vc_object_map.specs.declared.faults.StoreFault.TheVariants as of_store
use Rattle.vc_push_rules.specs.Carrying.{Carries, objects_of_push}
use Rattle.vc_push_rules.specs.Session.{SessionText, IsInStage, MayBeSetWhere, is_passing, stage_while, verdict_of}
use Rattle.vc_quarantine.specs.Blames.{BlamesMigration}
use Rattle.vc_session.specs.SessionFault.{IsRefusedCheck, IsRefusedStep, from_store}
use Rattle.vc_push_rules.specs.Steps.{names_of, EndsEarly, EndsUpdate, MaySetNext, UpdatesNext}
use Rattle.vc_push_rules.specs.Verdict.{IsVerdictAtUpdate, MayBeSet, refs_after}
use Rattle.vc_session.specs.declared.fault.SessionFault.{SessionFault}
use Rattle.vc_session.specs.declared.fault.SessionFault.TheVariants.{Store, Refs, Fault}
use Rattle.vc_push_rules.specs.declared.stage.Stage.{Stage}
use Rattle.vc_push_rules.specs.declared.stage.Stage.TheVariants.{Unpacked, Checked, Migrated, Done}
use Rattle.vc_push_rules.specs.declared.stage.Verdict.{Verdict}
use Rattle.vc_push_rules.specs.declared.stage.Verdict.TheVariants.{Passing, Accepted, Refused}

module _ (vs : List Verdict) (k : ℕ) (here : slice_get vs k ≡ Some Passing) where
  within : k < length vs
  within = slice_get_within vs k Passing here

  pub passing_there : list_any is_passing vs ≡ true
  passing_there = list_any_at is_passing vs k Passing within (ap is_passing (get_or_from_slice_get vs k Passing Passing here))

  -- what stands before it, it, and what stands behind it
  pub passing_split : vs ≡ take k vs ++ Passing ∷ drop (k + 1) vs
  passing_split =
      sym (take-append-drop k vs) ∙ ap (λ xs. take k vs ++ xs) (drop_more vs k Passing within ∙ ap (λ v. v ∷ drop (k + 1) vs) (get_or_from_slice_get vs k Passing Passing here))

  -- and with another verdict there
  pub settled_split : (w : Verdict) → slice_set vs k w ≡ take k vs ++ w ∷ drop (k + 1) vs
  settled_split w =
      sym (take-append-drop k (slice_set vs k w)) ∙ ap (λ xs. xs ++ drop k (slice_set vs k w)) (take-set vs k w) ∙ ap (λ xs. take k vs ++ xs) (drop-set vs k w within)

-- a command that passed may be set
pub may_at : (cs : List CommandText) (vs : List Verdict) (k : ℕ) (c : CommandText) → MayBeSetWhere cs vs → slice_get vs k ≡ Some Passing → slice_get cs k ≡ Some c → MayBeSet c.name
may_at [] vs k c may here is = absurd (cc is)
may_at (d ∷ cs) [] k c may here is = absurd (cc here)
may_at (d ∷ cs) (Passing ∷ vs) zero c may here is =
    let same : d ≡ c = cc in
    subst (λ (x : CommandText). MayBeSet x.name) same may.0
may_at (d ∷ cs) (Accepted ∷ vs) zero c may here is = absurd (cc here)
may_at (d ∷ cs) (Refused r ∷ vs) zero c may here is = absurd (cc here)
may_at (d ∷ cs) (Passing ∷ vs) (suc k) c may here is = may_at cs vs k c may.1 here is
may_at (d ∷ cs) (Accepted ∷ vs) (suc k) c may here is = may_at cs vs k c may here is
may_at (d ∷ cs) (Refused r ∷ vs) (suc k) c may here is = may_at cs vs k c may here is

rest_may : (c : CommandText) (cs : List CommandText) (v : Verdict) (vs : List Verdict) → MayBeSetWhere (c ∷ cs) (v ∷ vs) → MayBeSetWhere cs vs
rest_may c cs Passing vs may = may.1
rest_may c cs Accepted vs may = may
rest_may c cs (Refused r) vs may = may

settled_may : (c : CommandText) (cs : List CommandText) (w : Verdict) (vs : List Verdict) → is_passing w ≡ false → MayBeSetWhere cs vs → MayBeSetWhere (c ∷ cs) (w ∷ vs)
settled_may c cs Passing vs settled may = absurd (cc settled)
settled_may c cs Accepted vs settled may = may
settled_may c cs (Refused r) vs settled may = may

-- the others may still be, once it is settled
pub may_after : (cs : List CommandText) (vs : List Verdict) (k : ℕ) (w : Verdict) → is_passing w ≡ false → MayBeSetWhere cs vs → MayBeSetWhere cs (slice_set vs k w)
may_after [] vs k w settled may = tt
may_after (c ∷ cs) [] k w settled may = tt
may_after (c ∷ cs) (v ∷ vs) zero w settled may = settled_may c cs w vs settled (rest_may c cs v vs may)
may_after (c ∷ cs) (Passing ∷ vs) (suc k) w settled may = (may.0, may_after cs vs k w settled may.1)
may_after (c ∷ cs) (Accepted ∷ vs) (suc k) w settled may = may_after cs vs k w settled may
may_after (c ∷ cs) (Refused r ∷ vs) (suc k) w settled may = may_after cs vs k w settled may

-- a session stands at the stage while a command passes, and else at its end
pub in_stage : (s : SessionText) (stage : Stage) → (list_any is_passing s.verdicts ≡ true → IsInStage s stage) → IsInStage s (stage_while s.verdicts stage)
in_stage s stage passes =
    elim (list_any is_passing s.verdicts) as (λ b. list_any is_passing s.verdicts ≡ b → IsInStage s (cond b stage Done)) [
      | true ↦ λ yes. passes yes
      | false ↦ λ no. no
    ] refl

-- ---- refusals
-- of the check, as of its step
pub refused_check : (content : FileMap) (s : SessionText) (e : SessionFault) → IsRefusedCheck content s.slot e → IsRefusedStep content s Unpacked e
refused_check content s (Store fault) h = h
refused_check content s (Refs fault) h = h
refused_check content s (Fault fault) h = tt

pub refused_migration : (content : FileMap) (s : SessionText) (e : StoreFault) → BlamesMigration content s.slot s.names e → IsRefusedStep content s Checked (from_store e)
refused_migration content s (of_store.BadObject fault) h = h
refused_migration content s (of_store.Absent id) h = h
refused_migration content s (of_store.Damaged id) h = h
refused_migration content s (of_store.Fault fault) h = tt

-- ---- one update
-- the command at the place of the next verdict that passes
pub command_there : (held : List Command) (vs : List Verdict) (k : ℕ) (command : Command) → length vs ≡ length (commands_of held) → slice_get vs k ≡ Some Passing → command ≡ get_or held k command
    → slice_get (commands_of held) k ≡ Some (command_of command)
command_there held vs k command paired here is =
    let within : k < length held = omega (arith, slice_get_within vs k Passing here, paired, length-map held command_of) in
    slice_get-map command_of held k ∙ ap (option_map command_of) (slice_get_read held (length held) k command refl within is)

-- and it is one, however often it is read
pub same_there : (held : List Command) (vs : List Verdict) (k : ℕ) (c d : Command) → length vs ≡ length (commands_of held) → slice_get vs k ≡ Some Passing → c ≡ get_or held k c → d ≡ get_or held k d → c ≡ d
same_there held vs k c d paired here is also =
    let within : k < length held = omega (arith, slice_get_within vs k Passing here, paired, length-map held command_of) in
    let one : slice_get held k ≡ Some c = slice_get_read held (length held) k c refl within is in
    let other : slice_get held k ≡ Some d = slice_get_read held (length held) k d refl within also in
    cc

module _ (vs : List Verdict) (k : ℕ) (here : slice_get vs k ≡ Some Passing) (first : list_any is_passing (take k vs) ≡ false) (cs : List CommandText) (c : CommandText) (there : slice_get cs k ≡ Some c) where
  front_there : slice_get cs (length (take k vs)) ≡ Some c
  front_there = ap (slice_get cs) (length-take-le k vs (omega (arith, slice_get_within vs k Passing here))) ∙ there

  pub updates_next : (old new : RefMap) (ws : List Verdict) (name : List ℕ) (found : Option Reason)
      → name ≡ c.name → IsVerdictAtUpdate old c found → new ≡ refs_after old c found → ws ≡ slice_set vs k (verdict_of found) → UpdatesNext old new cs vs ws name found
  updates_next old new ws name found named judged set after = record {
    front = take k vs;
    back = drop (k + 1) vs;
    command = c;
    before = passing_split vs k here;
    first = first;
    command_is = front_there;
    named = named;
    judged = judged;
    refs_are = set;
    after = after ∙ settled_split vs k here (verdict_of found);
  }

  pub may_set_next : (content : FileMap) (s : SessionText) → s.atomic ≡ false → s.verdicts ≡ vs → s.commands ≡ cs → IsVerdictAtUpdate (refs content) c None → MaySetNext content s
  may_set_next content s single verdicts commands judged =
      (single, take k vs, drop (k + 1) vs, c, verdicts ∙ passing_split vs k here, first, ap (λ ds. slice_get ds (length (take k vs))) commands ∙ front_there, judged)

-- an update of one command changes nothing where it ends early
pub early_update : (old new : FileMap) (s : SessionText) → s.atomic ≡ false → new ≡ old → EndsEarly old new s Migrated
early_update old new s single same = subst (λ (b : Bool). EndsUpdate b (names_of s.commands) old new) (sym single) same

pub either : {A B C D : Type 0} → A ⊎ B → (A → C) → (B → D) → C ⊎ D
either (inl a) f g = inl (f a)
either (inr b) f g = inr (g b)

-- ---- the opening
-- each command has the same verdict
pub same_verdicts : (v : Verdict) (held : List Command) → map (λ (c : Command). v) held ≡ map (λ (c : CommandText). v) (commands_of held)
same_verdicts v [] = refl
same_verdicts v (c ∷ held) = ap (λ vs. v ∷ vs) (same_verdicts v held)

pub carries_by : (now files : FileMap) (slot : ℕ) (ids names : List ObjectId) (push carried : Carried) → now ≡ files → ids ≡ names → push ≡ carried → Carries files slot names (objects_of_push carried) → Carries now slot ids (objects_of_push push)
carries_by now files slot ids names push carried same_files same_names same_push h =
    subst (λ (x : FileMap). Carries x slot ids (objects_of_push push)) (sym same_files)
    (subst (λ (x : List ObjectId). Carries files slot x (objects_of_push push)) (sym same_names)
    (subst (λ (x : Carried). Carries files slot names (objects_of_push x)) (sym same_push) h))

-- the same call, up to what is the same
pub writes_at : {D : Type 0} {honest : Type 0} {content : D → FileMap} {failed : D → ℕ} {can_fail : D → Type 0} {left : D → Option ℕ} {old new now : D} {P : Type 0} → now ≡ new → Writes honest content failed can_fail left old new P → Writes honest content failed can_fail left old now P
writes_at {honest = honest} {content = content} {failed = failed} {can_fail = can_fail} {left = left} {old = old} {P = P} same w = subst (λ d. Writes honest content failed can_fail left old d P) (sym same) w
