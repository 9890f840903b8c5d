-- The names that are kept, as one slot after another is looked at.
use Rattle.std.proofs.Common.{arith, ◌≡◌, ◌<◌, ◌≤◌, ◌+◌, ◌↔◌, ℕ, List, [], get_or, length, Option, None, Contains, ◌⊎◌, inl, inr, sym, ap, ◌∙◌, subst, take}
use Rattle.std.specs.Prelude.{unwrap_or}
use Rattle.std.proofs.lemmas.Option.{slice_get-get_or, slice_get_past}
use Rattle.vc_files.specs.FileMap.{FileMap}
use Rattle.vc_message.proofs.Totals.{less_or}
use Rattle.vc_object.specs.declared.id.ObjectId.{ObjectId}
use Rattle.vc_object_map.specs.Graph.{AreExactly}
use Rattle.vc_pruning.specs.Roots.{AreNeeded}
use Rattle.vc_push_rules.specs.Session.{SessionText}
use Rattle.vc_shared.specs.Pruning.{AddsBySlots, AddsInSlot, IsNeededInSlot, KeepsNeeded}
use Rattle.vc_shared.specs.Slots.{slot_of}

-- ---- one slot
pub adds_some : (content : FileMap) (slot : Option SessionText) (old new names : List ObjectId) → AreExactly (IsNeededInSlot content slot) names → ((id : ObjectId) → Contains new id ↔ (Contains old id ⊎ Contains names id)) → AddsInSlot content slot old new
adds_some content slot old new names needed added = record { names = names; needed = needed; added = added }

-- an empty slot needs nothing
pub adds_none : (content : FileMap) (old : List ObjectId) → AddsInSlot content None old old
adds_none content old = record {
  names = [];
  needed = λ id. (λ among. absurd (omega (arith, among.1)), λ never. absurd never);
  added = λ id. (λ h. inl h, λ either. elim either [ inl h ↦ h | inr among ↦ absurd (omega (arith, among.1)) ]);
}

-- ---- the first slots
-- what the pushes in so many slots need is added
pub record AddsFirst (content : FileMap) (slots : List (Option SessionText)) (n : ℕ) (old new : List ObjectId) : Type 0 where
  pub by_slot : ℕ → List ObjectId
  pub needed : (k : ℕ) → k < n → AreExactly (IsNeededInSlot content (slot_of slots k)) (by_slot k)
  pub added : (id : ObjectId) → Contains new id ↔ (Contains old id ⊎ ((k : ℕ) × (k < n) × Contains (by_slot k) id))

module _ (content : FileMap) (slots : List (Option SessionText)) (old : List ObjectId) where
  pub adds_first : AddsFirst content slots 0 old old
  adds_first = record {
    by_slot = λ k. [];
    needed = λ k below. absurd (omega (arith, below));
    added = λ id. (λ h. inl h, λ either. elim either [ inl h ↦ h | inr slot ↦ absurd (let never = slot.1 in omega (arith, never)) ]);
  }

  -- a list below n, and another from there on
  abbrev pick : (k n : ℕ) → (k < n) ⊎ (n ≤ k) → List ObjectId → List ObjectId → List ObjectId
  pick k n (inl below) before after = before
  pick k n (inr past) before after = after

  picked_before : (k n : ℕ) (side : (k < n) ⊎ (n ≤ k)) (before after : List ObjectId) (id : ObjectId) → k < n → Contains before id → Contains (pick k n side before after) id
  picked_before k n (inl below) before after id low h = h
  picked_before k n (inr past) before after id low h = absurd (omega (arith, low, past))

  picked_after : (k n : ℕ) (side : (k < n) ⊎ (n ≤ k)) (before after : List ObjectId) (id : ObjectId) → n ≤ k → Contains after id → Contains (pick k n side before after) id
  picked_after k n (inl below) before after id high h = absurd (omega (arith, below, high))
  picked_after k n (inr past) before after id high h = h

  picked : (k n : ℕ) (side : (k < n) ⊎ (n ≤ k)) (before after : List ObjectId) (id : ObjectId) → Contains (pick k n side before after) id → ((k < n) × Contains before id) ⊎ Contains after id
  picked k n (inl below) before after id h = inl (below, h)
  picked k n (inr past) before after id h = inr h

  module _ (n : ℕ) (mid new : List ObjectId) (first : AddsFirst content slots n old mid) where
    -- the next slot
    module _ (next : AddsInSlot content (slot_of slots n) mid new) where
      abbrev lists : ℕ → List ObjectId
      lists k = pick k n (less_or k n) (first.by_slot k) next.names

      needed_next : (k : ℕ) (side : (k < n) ⊎ (n ≤ k)) → k < n + 1 → AreExactly (IsNeededInSlot content (slot_of slots k)) (pick k n side (first.by_slot k) next.names)
      needed_next k (inl below) low = first.needed k below
      needed_next k (inr past) low =
          let same : n ≡ k = omega (arith, past, low) in
          subst (λ (j : ℕ). AreExactly (IsNeededInSlot content (slot_of slots j)) next.names) same next.needed

      pub adds_next : AddsFirst content slots (n + 1) old new
      adds_next = record {
        by_slot = lists;
        needed = λ k low. needed_next k (less_or k n) low;
        added = λ id. (
          λ h. elim ((next.added id).0 h) [
            | inl among ↦ elim ((first.added id).0 among) [
              | inl before ↦ inl before
              | inr slot ↦ inr (slot.0, omega (arith, slot.1), picked_before slot.0 n (less_or slot.0 n) (first.by_slot slot.0) next.names id slot.1 slot.2)
            ]
            | inr among ↦ inr (n, omega arith, picked_after n n (less_or n n) (first.by_slot n) next.names id (omega arith) among)
          ],
          λ either. (next.added id).1 (elim either [
            | inl before ↦ inl ((first.added id).1 (inl before))
            | inr slot ↦ elim (picked slot.0 n (less_or slot.0 n) (first.by_slot slot.0) next.names id slot.2) [
              | inl here ↦ inl ((first.added id).1 (inr (slot.0, here.0, here.1)))
              | inr last ↦ inr last
            ]
          ]),
        );
      }

    -- all slots: none stands past the last
    module _ (all : length slots ≤ n) where
      abbrev ended : ℕ → List ObjectId
      ended k = pick k n (less_or k n) (first.by_slot k) []

      nothing_past : (k : ℕ) → n ≤ k → slot_of slots k ≡ None
      nothing_past k past = ap (λ found. unwrap_or found None) (slice_get_past slots k (omega (arith, past, all)))

      needed_all : (k : ℕ) (side : (k < n) ⊎ (n ≤ k)) → AreExactly (IsNeededInSlot content (slot_of slots k)) (pick k n side (first.by_slot k) [])
      needed_all k (inl below) = first.needed k below
      needed_all k (inr past) =
          subst (λ (v : Option SessionText). AreExactly (IsNeededInSlot content v) []) (sym (nothing_past k past)) (λ id. (λ among. absurd (omega (arith, among.1)), λ never. absurd never))

      pub adds_all : AddsBySlots content slots old mid
      adds_all = record {
        by_slot = ended;
        needed = λ k. needed_all k (less_or k n);
        added = λ id. (
          λ h. elim ((first.added id).0 h) [
            | inl before ↦ inl before
            | inr slot ↦ inr (slot.0, picked_before slot.0 n (less_or slot.0 n) (first.by_slot slot.0) [] id slot.1 slot.2)
          ],
          λ either. (first.added id).1 (elim either [
            | inl before ↦ inl before
            | inr slot ↦ elim (picked slot.0 n (less_or slot.0 n) (first.by_slot slot.0) [] id slot.1) [
              | inl here ↦ inr (slot.0, here.0, here.1)
              | inr none ↦ absurd (omega (arith, none.1))
            ]
          ]),
        );
      }

-- the slot that is looked at
pub slot_at : (slots : List (Option SessionText)) (i : ℕ) (v : Option SessionText) → i < length slots → v ≡ get_or slots i v → slot_of slots i ≡ v
slot_at slots i v below is = ap (λ found. unwrap_or found None) (slice_get-get_or slots i v below) ∙ sym is

-- ---- the list that is made of the set
pub keeps_needed : (content : FileMap) (slots : List (Option SessionText)) (rooted first all names : List ObjectId) → AreNeeded content rooted → ((id : ObjectId) → Contains first id ↔ Contains rooted id) → AddsBySlots content slots first all
    → ((id : ObjectId) → Contains names id ↔ (Contains all id × ¬ Contains (take 0 all) id)) → KeepsNeeded content slots names
keeps_needed content slots rooted first all names by_root made adds listed = record {
  rooted = rooted;
  by_root = by_root;
  by_slots = record {
    by_slot = adds.by_slot;
    needed = adds.needed;
    added = λ id. (
      λ h. elim ((adds.added id).0 ((listed id).0 h).0) [
        | inl before ↦ inl ((made id).0 before)
        | inr slot ↦ inr slot
      ],
      λ either. (listed id).1 (
        (adds.added id).1 (elim either [
          | inl before ↦ inl ((made id).1 before)
          | inr slot ↦ inr slot
        ]),
        λ none. absurd (omega (arith, none.1)),
      ),
    );
  };
}
