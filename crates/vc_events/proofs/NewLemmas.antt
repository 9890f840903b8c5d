-- A new world.
use Rattle.std.proofs.Common.{◌≡◌, ◌<◌, ◌≤◌, ◌+◌, ◌⊎◌, ℕ, Bool, zero, suc, List, [], ◌∷◌, Option, Some, None, inl, inr, refl, sym, ap, ◌∙◌, subst, slice_get, unwrap_or, length, replicate, arith}
use Rattle.std.specs.FinMap.{FinMap, get, insert, empty, get-empty, nat_cmp-IsAntisymmetric}
use Rattle.std.specs.List.{AllByRecursion}
use Rattle.std.specs.Ordering.{nat_cmp}
use Rattle.std.specs.Cmp.{nat_cmp_total}
use Rattle.std.proofs.lemmas.Option.{slice_get_within}
use Rattle.vc_model.specs.Shared.{SharedNode}
use Rattle.vc_model.specs.Clone.{CloneNode}
use Rattle.vc_model.specs.ExactWorld.{FusedWorld}
use Rattle.vc_model.proofs.Maps.{insert_same, insert_other, same_key}
use Rattle.vc_events.specs.declared.world.World.{World}
use Rattle.vc_events.specs.Calls.{Seen}
use Rattle.vc_events.specs.World.{AreFresh, HoldsAt, AreLetters, IsNewWorld, fresh_shared, fresh_clone}
use Rattle.vc_events.specs.Events.{IsEnd}

-- so many new clones, from number k on
abbrev fresh_clones : ℕ → ℕ → FinMap nat_cmp CloneNode
fresh_clones k zero = empty
fresh_clones k (suc n) = insert (fresh_clones (suc k) n) k fresh_clone

abbrev IsThere : ℕ → ℕ → ℕ → Type 0
IsThere k n c = ((k ≤ c) × (c < k + n) × (get (fresh_clones k n) c ≡ Some fresh_clone)) ⊎ (((c < k) ⊎ (k + n ≤ c)) × (get (fresh_clones k n) c ≡ None))

there : (k n c : ℕ) → IsThere k n c
there k zero c = inr (below_or k c, get-empty nat_cmp c)
  where
    below_or : (k c : ℕ) → (c < k) ⊎ (k + 0 ≤ c)
    below_or k c = grind arith
there k (suc n) c = elim (same_key nat_cmp_total nat_cmp-IsAntisymmetric c k) [
  | inl e ↦ inl (omega (arith, e), omega (arith, e), ap (get (fresh_clones k (suc n))) e ∙ insert_same nat_cmp_total nat_cmp-IsAntisymmetric (fresh_clones (suc k) n) k fresh_clone)
  | inr e ↦ other e (there (suc k) n c)
]
  where
    other : (c ≡ k → ⊥) → IsThere (suc k) n c → IsThere k (suc n) c
    other e (inl h) = inl (omega (arith, h.0), omega (arith, h.1), insert_other nat_cmp_total nat_cmp-IsAntisymmetric (fresh_clones (suc k) n) k fresh_clone c e ∙ h.2)
    other e (inr h) = inr (past e h.0, insert_other nat_cmp_total nat_cmp-IsAntisymmetric (fresh_clones (suc k) n) k fresh_clone c e ∙ h.1)
      where
        past : (c ≡ k → ⊥) → (c < suc k) ⊎ (suc k + n ≤ c) → (c < k) ⊎ (k + suc n ≤ c)
        past e h = grind (arith, e, h)

all_at : {X : Type 0} (P : X → Type 0) (xs : List X) (c : ℕ) (x : X) → AllByRecursion P xs → slice_get xs c ≡ Some x → P x
all_at P [] c x all is = absurd (cc)
all_at P (y ∷ xs) zero x all is = subst P (cc) all.0
all_at P (y ∷ xs) (suc c) x all is = all_at P xs c x all.1 is

none_past : {X : Type 0} (xs : List X) (c : ℕ) → slice_get xs c ≡ None → length xs ≤ c
none_past [] c is = grind arith
none_past (y ∷ xs) zero is = absurd (cc)
none_past (y ∷ xs) (suc c) is = let h : length xs ≤ c = none_past xs c is in omega (arith, h)

-- the clones are held, place by place
held_fresh : {C : Type 0} (holds : C → CloneNode → Type 0) (xs : List C) (c : ℕ) → AllByRecursion (λ x. holds x fresh_clone) xs → HoldsAt holds (slice_get xs c) (get (fresh_clones 0 (length xs)) c)
held_fresh {C} holds xs c all = go (slice_get xs c) refl
  where
    go : (o : Option C) → slice_get xs c ≡ o → HoldsAt holds o (get (fresh_clones 0 (length xs)) c)
    go (Some x) is = elim (there 0 (length xs) c) [
      | inl h ↦ subst (λ (o : Option CloneNode). HoldsAt holds (Some x) o) (sym h.2) (all_at (λ x. holds x fresh_clone) xs c x all is)
      | inr h ↦ let below : c < length xs = slice_get_within xs c x is in let f : ⊥ = grind (arith, below, h.0) in absurd f
    ]
    go None is = elim (there 0 (length xs) c) [
      | inl h ↦ let past : length xs ≤ c = none_past xs c is in let f : ⊥ = omega (arith, past, h.1) in absurd f
      | inr h ↦ subst (λ (o : Option CloneNode). HoldsAt holds None o) (sym h.1) tt
    ]

zeros : (s : ℕ) → ◌≡◌ {A = ℕ} (unwrap_or (slice_get (replicate 8 0) s) 0) 0
zeros s = go 8 s
  where
    go : (n s : ℕ) → ◌≡◌ {A = ℕ} (unwrap_or (slice_get (replicate n 0) s) 0) 0
    go zero s = refl
    go (suc n) zero = refl
    go (suc n) (suc s) = go n s

pub new_world : {S C : Type 0} (hs : Seen S SharedNode) (hc : Seen C CloneNode) (frail : Bool) (v : World S C) → AreFresh hs hc frail v.shared v.clones.items → 0 < length v.clones.items
    → v.letters.items ≡ [] → v.senders ≡ replicate 8 0 → IsNewWorld hs hc (length v.clones.items) frail v
new_world {S} {C} hs hc frail v fresh some letters senders = record {
  start = start frail;
  is_new = record {
    shared = refl;
    clones = λ c. elim (there 0 (length v.clones.items) c) [
      | inl h ↦ inl (omega (arith, h.1), h.2)
      | inr h ↦ inr (past c h.0, h.1)
    ];
    sent = refl;
  };
  frail_is = refl;
  unfused = record { shared = refl; clones = λ c. get-empty nat_cmp c };
  held = record {
    shared = fresh.shared_new;
    clones = λ c. held_fresh (hc.may_be frail) v.clones.items c fresh.clones_new;
    letters = subst (λ ls. AreLetters ls []) (sym letters) tt;
    senders = λ s. ap (λ (o : Option ℕ). unwrap_or o 0) (get-empty nat_cmp s) ∙ sym (ap (λ (l : List ℕ). unwrap_or (slice_get l s) 0) senders ∙ zeros s);
    shared_fuse = sym fresh.shared_unstopped;
    clone_fuses = λ c x at. get-empty nat_cmp c ∙ sym (all_at (λ (x : C). hc.left x ≡ None) v.clones.items c x fresh.clones_unstopped at);
    ends = subst (λ ls. AllByRecursion (IsEnd (length v.clones.items)) ls) (sym letters) tt;
    known = λ s. subst (λ (n : ℕ). n < length v.clones.items) (sym (ap (λ (l : List ℕ). unwrap_or (slice_get l s) 0) senders ∙ zeros s)) some;
  };
}
  where
    start : Bool → FusedWorld
    start frail = record { world = record { shared = fresh_shared; clones = fresh_clones 0 (length v.clones.items); sent = []; senders = empty }; frail = frail; shared_fuse = None; clone_fuses = empty }

    past : (c : ℕ) → (c < 0) ⊎ (0 + length v.clones.items ≤ c) → length v.clones.items ≤ c
    past c h = grind (arith, h)
