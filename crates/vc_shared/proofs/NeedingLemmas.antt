-- What the open pushes need, as the layers have it and as the machine has it.
use Rattle.std.proofs.Common.{arith, ◌≡◌, ◌≢◌, ◌<◌, ◌≤◌, ◌↔◌, ℕ, zero, suc, List, [], ◌∷◌, Option, Some, None, Contains, IsSome, ◌⊎◌, inl, inr, refl, sym, ap, ◌∙◌, subst}
use Rattle.std.specs.Prelude.{option_map}
use Rattle.std.specs.FinMap.{get}
use Rattle.std.specs.Option.{option_or}
use Rattle.std.proofs.lemmas.List.Elements.{Contains-append_cases, Contains-append_left, Contains-append_right}
use Rattle.std.proofs.lemmas.Option.{none-some, same_Some}
use Rattle.vc_files.specs.FileMap.{FileMap}
use Rattle.vc_format.specs.Git.{id_of_bytes}
use Rattle.vc_local.specs.Machine.{Spells}
use Rattle.vc_local.specs.Shown.{shown}
use Rattle.vc_message.proofs.Totals.{less_or}
use Rattle.vc_model.proofs.Commits.{contains_cons}
use Rattle.vc_model.specs.Clone.{IsReached}
use Rattle.vc_model.specs.Object.{Id, Object, Objects, over}
use Rattle.vc_model.specs.Push.{Judged, OpenPush, Slots}
use Rattle.vc_model.specs.Push.Verdict.{Refused as MachineRefused}
use Rattle.vc_model.specs.Push as machine
use Rattle.vc_model.specs.Reach.{Links, Reaches}
use Rattle.vc_model.specs.Repository.{Repository}
use Rattle.vc_model.specs.Shared.{IsNeeded}
use Rattle.vc_model.specs.Shared.IsNeeded.{by_push, by_root}
use Rattle.vc_object.specs.declared.id.ObjectId.{ObjectId}
use Rattle.vc_object_map.specs.Graph.{AreExactly}
use Rattle.vc_object_map.specs.Overlay.{with_carried}
use Rattle.vc_pruning.proofs.KeptLemmas.{Knows, knows_same, knows_walk}
use Rattle.vc_pruning.proofs.RootLemmas.{knows_reached}
use Rattle.vc_push.specs.Push.{CommandText}
use Rattle.vc_push_rules.specs.Quarantine.{objects_seen, quarantined}
use Rattle.vc_push_rules.specs.Session.{SessionText}
use Rattle.vc_push_rules.specs.declared.stage.Verdict.{Verdict}
use Rattle.vc_push_rules.specs.declared.stage.Verdict.TheVariants.{Accepted, Passing, Refused}
use Rattle.vc_rules.specs.Git.{git, stored_of}
use Rattle.vc_rules.specs.OpenPushes.{HoldsPush, judged_commands, machine_standing}
use Rattle.vc_rules.specs.Verdicts.{machine_command, machine_reason}
use Rattle.vc_session.specs.Needing.{unrefused_id, unrefused_ids}
use Rattle.vc_shared.proofs.SteppingLaws.{IsStanding, standing}
use Rattle.vc_shared.specs.Holding.{HoldsSlots}
use Rattle.vc_shared.specs.Pruning.{IsNeededInSlot, KeepsNeeded}
use Rattle.vc_shared.specs.Slots.{slot_of}

-- ---- the commands that nothing has refused
-- one of them has this new id
record HasNew (js : List Judged) (x : Id) : Type 0 where
  judged : Judged
  among : Contains js judged
  standing : (v : machine.Reason) → judged.verdict ≢ MachineRefused v
  new : judged.command.new ≡ x

has_later : (j : Judged) (js : List Judged) (x : Id) → HasNew js x → HasNew (j ∷ js) x
has_later j js x has = record { judged = has.judged; among = Contains-append_right (j ∷ []) js has.judged has.among; standing = has.standing; new = has.new }

-- a verdict that is none of refusal
never_refused : (v : Verdict) → ((r : machine.Reason) → machine_standing v ≢ MachineRefused r) → (c : CommandText) → Contains (unrefused_id c v) c.new
never_refused Passing standing c = (0, omega arith, refl)
never_refused Accepted standing c = (0, omega arith, refl)
never_refused (Refused r) standing c = absurd (standing (machine_reason r) refl)

first_named : (c : CommandText) (v : Verdict) (x : Id) → Contains (unrefused_id c v) (id_of_bytes x) → (c.new.0 ≡ x) × ((r : machine.Reason) → machine_standing v ≢ MachineRefused r)
first_named c Passing x h = elim (contains_cons c.new [] (id_of_bytes x) h) [ inl is ↦ (ap (λ (i : ObjectId). i.0) is, λ r never. cc never) | inr none ↦ absurd (omega (arith, none.1)) ]
first_named c Accepted x h = elim (contains_cons c.new [] (id_of_bytes x) h) [ inl is ↦ (ap (λ (i : ObjectId). i.0) is, λ r never. cc never) | inr none ↦ absurd (omega (arith, none.1)) ]
first_named c (Refused r) x h = absurd (omega (arith, h.1))

news_to : (cs : List CommandText) (vs : List Verdict) (x : Id) → HasNew (judged_commands cs vs) x → Contains (unrefused_ids cs vs) (id_of_bytes x)
news_to [] vs x has = absurd (omega (arith, has.among.1))
news_to (c ∷ cs) [] x has = absurd (omega (arith, has.among.1))
news_to (c ∷ cs) (v ∷ vs) x has =
    let j : Judged = record { command = machine_command c; verdict = machine_standing v } in
    elim (contains_cons j (judged_commands cs vs) has.judged has.among) [
      | inl is ↦
          let same : c.new ≡ id_of_bytes x = ap (λ (k : Judged). id_of_bytes k.command.new) is ∙ ap id_of_bytes has.new in
          let standing : (r : machine.Reason) → machine_standing v ≢ MachineRefused r = λ r refused. has.standing r (sym (ap (λ (k : Judged). k.verdict) is) ∙ refused) in
          Contains-append_left (unrefused_id c v) (unrefused_ids cs vs) (id_of_bytes x) (subst (λ i. Contains (unrefused_id c v) i) same (never_refused v standing c))
      | inr later ↦
          Contains-append_right (unrefused_id c v) (unrefused_ids cs vs) (id_of_bytes x) (news_to cs vs x (record { judged = has.judged; among = later; standing = has.standing; new = has.new }))
    ]

news_from : (cs : List CommandText) (vs : List Verdict) (x : Id) → Contains (unrefused_ids cs vs) (id_of_bytes x) → HasNew (judged_commands cs vs) x
news_from [] vs x h = absurd (omega (arith, h.1))
news_from (c ∷ cs) [] x h = absurd (omega (arith, h.1))
news_from (c ∷ cs) (v ∷ vs) x h =
    let j : Judged = record { command = machine_command c; verdict = machine_standing v } in
    elim (Contains-append_cases (unrefused_id c v) (unrefused_ids cs vs) (id_of_bytes x) h) [
      | inl first ↦ let is = first_named c v x first in record { judged = j; among = (0, omega arith, refl); standing = is.1; new = is.0 }
      | inr later ↦ has_later j (judged_commands cs vs) x (news_from cs vs x later)
    ]

-- ---- one slot
-- the machine's push in a slot needs the name
pub record NeedsAt (r : Repository) (pushes : Slots) (k : ℕ) (y : Id) : Type 0 where
  pub push : OpenPush
  pub is : get pushes k ≡ Some push
  pub judged : Judged
  pub among : Contains push.commands judged
  pub standing : (v : machine.Reason) → judged.verdict ≢ MachineRefused v
  pub reaches : Reaches (Links git (over r.objects push.carried)) judged.command.new y

-- what the push sees is what is stored, and else what it carries
either_mapped : {A B : Type 0} (f : A → B) (a b : Option A) → option_or (option_map f a) (option_map f b) ≡ option_map f (option_or a b)
either_mapped f None b = refl
either_mapped f (Some x) b = refl

seen_over : (content : FileMap) (r : Repository) (slot : ℕ) (c : Objects) → Spells (shown content) r → ((x : Id) → quarantined content slot (id_of_bytes x) ≡ option_map stored_of (get c x))
    → (x : Id) → objects_seen content slot (id_of_bytes x) ≡ option_map stored_of (over r.objects c x)
unfolding with_carried
seen_over content r slot c spells carried x =
    ap (λ o. option_or o (quarantined content slot (id_of_bytes x))) (spells.objects x) ∙ ap (option_or (option_map stored_of (get r.objects x))) (carried x) ∙ either_mapped stored_of (get r.objects x) (get c x)

stored_over : (s c : Objects) (x : Id) (o : Object) → get s x ≡ Some o → IsSome (over s c x)
stored_over s c x o is = subst (λ (found : Option Object). IsSome (option_or found (get c x))) (sym is) refl

module _ (content : FileMap) (r : Repository) (spells : Spells (shown content) r) (pushes : Slots) (k : ℕ) where
  none_at : get pushes k ≡ None → (names : List ObjectId) → AreExactly (λ id. ⊥) names → Knows (NeedsAt r pushes k) r.objects names
  none_at none names exact =
      let never : (y : Id) → ¬ NeedsAt r pushes k y = λ y needs. none-some needs.push (sym none ∙ needs.is) in
      record {
        decided = λ y. inr (never y);
        exact = λ y o is. (λ among. absurd ((exact (id_of_bytes y)).0 among), λ needs. absurd (never y needs));
      }

  module _ (s : SessionText) (p : OpenPush) (is : get pushes k ≡ Some p) (push : HoldsPush content s p) where
    rooted : (x : Id) → HasNew p.commands x ↔ Contains (unrefused_ids s.commands s.verdicts) (id_of_bytes x)
    rooted x = (
      λ has. news_to s.commands s.verdicts x (subst (λ (js : List Judged). HasNew js x) push.commands has),
      λ among. subst (λ (js : List Judged). HasNew js x) (sym push.commands) (news_from s.commands s.verdicts x among),
    )

    needs_from : (y : Id) → ((x : Id) × HasNew p.commands x × Reaches (Links git (over r.objects p.carried)) x y) → NeedsAt r pushes k y
    needs_from y (x, has, reaches) = record {
      push = p;
      is = is;
      judged = has.judged;
      among = has.among;
      standing = has.standing;
      reaches = subst (λ (z : Id). Reaches (Links git (over r.objects p.carried)) z y) (sym has.new) reaches;
    }

    needs_to : (y : Id) → NeedsAt r pushes k y → ((x : Id) × HasNew p.commands x × Reaches (Links git (over r.objects p.carried)) x y)
    needs_to y needs =
        let same : needs.push ≡ p = same_Some needs.push p (sym needs.is ∙ is) in (
          needs.judged.command.new,
          record { judged = needs.judged; among = subst (λ (q : OpenPush). Contains q.commands needs.judged) same needs.among; standing = needs.standing; new = refl },
          subst (λ (q : OpenPush). Reaches (Links git (over r.objects q.carried)) needs.judged.command.new y) same needs.reaches,
        )

    some_at : (names : List ObjectId) → AreExactly (IsNeededInSlot content (Some s)) names → Knows (NeedsAt r pushes k) r.objects names
    some_at names exact =
        knows_same (λ y. (needs_from y, needs_to y))
        (knows_walk (objects_seen content s.slot) (over r.objects p.carried) (seen_over content r s.slot p.carried spells push.carried) (unrefused_ids s.commands s.verdicts) names exact
        (HasNew p.commands) rooted r.objects (stored_over r.objects p.carried))

  knows_standing : (v : Option SessionText) (names : List ObjectId) → IsStanding content pushes k v → AreExactly (IsNeededInSlot content v) names → Knows (NeedsAt r pushes k) r.objects names
  knows_standing None names none exact = none_at none names exact
  knows_standing (Some s) names (p, small, is, at, push, clean) exact = some_at s p is push names exact

-- ---- all slots
module _ (content : FileMap) (r : Repository) (spells : Spells (shown content) r) (slots : List (Option SessionText)) (pushes : Slots) (holds : HoldsSlots content slots pushes)
    (kept : List ObjectId) (keeps : KeepsNeeded content slots kept) where
  by_root_known : Knows (IsReached git r) r.objects keeps.rooted
  by_root_known = knows_reached content r keeps.rooted spells keeps.by_root

  by_slot_known : (k : ℕ) → Knows (NeedsAt r pushes k) r.objects (keeps.by_slots.by_slot k)
  by_slot_known k = knows_standing content r spells pushes k (slot_of slots k) (keeps.by_slots.by_slot k) (standing content slots pushes k holds) (keeps.by_slots.needed k)

  -- some of the first slots needs it, or none of them
  some_slot : (n : ℕ) (y : Id) → ((k : ℕ) × NeedsAt r pushes k y) ⊎ ((k : ℕ) → k < n → ¬ NeedsAt r pushes k y)
  some_slot zero y = inr (λ k below. absurd (omega (arith, below)))
  some_slot (suc n) y = by ((by_slot_known n).decided y) (some_slot n y)
    where
      last : ¬ NeedsAt r pushes n y → ((k : ℕ) → k < n → ¬ NeedsAt r pushes k y) → (k : ℕ) → k < suc n → (k < n) ⊎ (n ≤ k) → ¬ NeedsAt r pushes k y
      last is_not none k below (inl before) = none k before
      last is_not none k below (inr past) = let same : n ≡ k = omega (arith, below, past) in subst (λ (i : ℕ). ¬ NeedsAt r pushes i y) same is_not

      by : NeedsAt r pushes n y ⊎ (¬ NeedsAt r pushes n y) → ((k : ℕ) × NeedsAt r pushes k y) ⊎ ((k : ℕ) → k < n → ¬ NeedsAt r pushes k y) → ((k : ℕ) × NeedsAt r pushes k y) ⊎ ((k : ℕ) → k < suc n → ¬ NeedsAt r pushes k y)
      by (inl is_so) rest = inl (n, is_so)
      by (inr is_not) (inl is_so) = inl is_so
      by (inr is_not) (inr none) = inr (λ k below. last is_not none k below (less_or k n))

  -- what stands in a slot is in one of the eight
  within : (y : Id) (k : ℕ) → NeedsAt r pushes k y → k < 8
  within y k needs = elim (less_or k 8) [ inl small ↦ small | inr past ↦ absurd (none-some needs.push (sym (holds.others k past) ∙ needs.is)) ]

  any_slot : (y : Id) → ((k : ℕ) × NeedsAt r pushes k y) ⊎ (¬ ((k : ℕ) × NeedsAt r pushes k y))
  any_slot y = elim (some_slot 8 y) [
    | inl is_so ↦ inl is_so
    | inr none ↦ inr (λ needs. none needs.0 (within y needs.0 needs.1) needs.1)
  ]

  abbrev Either : Id → Type 0
  Either y = IsReached git r y ⊎ ((k : ℕ) × NeedsAt r pushes k y)

  needed_from : (y : Id) → Either y → IsNeeded git r pushes y
  needed_from y (inl (x, root, reaches)) = by_root x root reaches
  needed_from y (inr (k, needs)) = by_push k needs.push needs.judged needs.is needs.among needs.standing needs.reaches

  needed_to : (y : Id) → IsNeeded git r pushes y → Either y
  needed_to y (by_root x root reaches) = inl (x, root, reaches)
  needed_to y (by_push k p j is among standing reaches) = inr (k, record { push = p; is = is; judged = j; among = among; standing = standing; reaches = reaches })

  decided : (y : Id) → IsReached git r y ⊎ (¬ IsReached git r y) → ((k : ℕ) × NeedsAt r pushes k y) ⊎ (¬ ((k : ℕ) × NeedsAt r pushes k y)) → Either y ⊎ (¬ Either y)
  decided y (inl is_so) other = inl (inl is_so)
  decided y (inr is_not) (inl is_so) = inl (inr is_so)
  decided y (inr is_not) (inr none) = inr (λ either. elim either [ inl is_so ↦ is_not is_so | inr is_so ↦ none is_so ])

  -- an object of the machine is needed exactly if its name is kept
  pub knows_needed : Knows (IsNeeded git r pushes) r.objects kept
  knows_needed = knows_same (λ y. (needed_from y, needed_to y)) (record {
    decided = λ y. decided y (by_root_known.decided y) (any_slot y);
    exact = λ y o is. (
      λ among. elim ((keeps.by_slots.added (id_of_bytes y)).0 among) [
        | inl root ↦ inl ((by_root_known.exact y o is).0 root)
        | inr slot ↦ inr (slot.0, ((by_slot_known slot.0).exact y o is).0 slot.1)
      ],
      λ either. (keeps.by_slots.added (id_of_bytes y)).1 (elim either [
        | inl is_so ↦ inl ((by_root_known.exact y o is).1 is_so)
        | inr is_so ↦ inr (is_so.0, ((by_slot_known is_so.0).exact y o is).1 is_so.1)
      ]),
    );
  })
