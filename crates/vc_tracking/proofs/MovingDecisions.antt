-- What is so or is not: for the moves of refs, of which each happens or is passed over.
use Rattle.std.proofs.Common.{arith, ◌≡◌, ◌⊎◌, inl, inr, zero, suc, Bool, true, false, List, [], ◌∷◌, refl, sym, subst, true≢false}
use Rattle.std.specs.Prelude.{Contains}

abbrev pub Decided : Type 0 → Type 0
Decided P = P ⊎ ¬ P

pub decided_iff : {P Q : Type 0} → (P → Q) → (Q → P) → Decided P → Decided Q
decided_iff to from (inl p) = inl (to p)
decided_iff to from (inr none) = inr (λ q. none (from q))

pub decided_both : {P Q : Type 0} → Decided P → Decided Q → Decided (P × Q)
decided_both (inr none) q = inr (λ both. none both.0)
decided_both (inl p) (inr none) = inr (λ both. none both.1)
decided_both (inl p) (inl q) = inl (p, q)

pub decided_either : {P Q : Type 0} → Decided P → Decided Q → Decided (P ⊎ Q)
decided_either (inl p) q = inl (inl p)
decided_either (inr none) (inl q) = inl (inr q)
decided_either {P} {Q} (inr none) (inr not) = inr neither
  where
    neither : P ⊎ Q → ⊥
    neither (inl p) = none p
    neither (inr q) = not q

pub decided_if : {P Q : Type 0} → Decided P → Decided Q → Decided (P → Q)
decided_if (inr none) q = inl (λ p. absurd (none p))
decided_if (inl p) (inl q) = inl (λ _. q)
decided_if (inl p) (inr none) = inr (λ f. none (f p))

pub decided_test : (b : Bool) → Decided (b ≡ true)
decided_test true = inl refl
decided_test false = inr (λ e. true≢false (sym e))

-- ---- among the items of a list
module _ {X : Type 0} where
  pub contained_cases : (y : X) (ys : List X) (x : X) → Contains (y ∷ ys) x → (y ≡ x) ⊎ Contains ys x
  contained_cases y ys x (zero, within, is) = inl is
  contained_cases y ys x (suc k, within, is) = inr (k, omega (arith, within), is)

  pub contained_first : (y : X) (ys : List X) → Contains (y ∷ ys) y
  contained_first y ys = (0, omega arith, refl)

  pub contained_later : (y : X) (ys : List X) (x : X) → Contains ys x → Contains (y ∷ ys) x
  contained_later y ys x h = (suc h.0, omega (arith, h.1), h.2)

  pub contained_none : {P : Type 0} (x : X) → Contains [] x → P
  contained_none x h = absurd (let k = h.1 in omega (arith, k))

  module _ (P : X → Type 0) (decide : (x : X) → Decided (P x)) where
    pub decided_all : (xs : List X) → Decided ((x : X) → Contains xs x → P x)
    decided_all [] = inl (λ x h. contained_none x h)
    decided_all (y ∷ ys) = by (decide y) (decided_all ys)
      where
        by : Decided (P y) → Decided ((x : X) → Contains ys x → P x) → Decided ((x : X) → Contains (y ∷ ys) x → P x)
        by (inr none) more = inr (λ all. none (all y (contained_first y ys)))
        by (inl p) (inr none) = inr (λ all. none (λ x h. all x (contained_later y ys x h)))
        by (inl p) (inl all) = inl (λ x h. elim (contained_cases y ys x h) as (λ _. P x) [ inl same ↦ subst P same p | inr later ↦ all x later ])

  pub decided_contains : (same : (x y : X) → Decided (x ≡ y)) (xs : List X) (x : X) → Decided (Contains xs x)
  decided_contains same [] x = inr (λ h. contained_none x h)
  decided_contains same (y ∷ ys) x = by (same y x) (decided_contains same ys x)
    where
      by : Decided (y ≡ x) → Decided (Contains ys x) → Decided (Contains (y ∷ ys) x)
      by (inl is) later = inl (subst (Contains (y ∷ ys)) is (contained_first y ys))
      by (inr other) (inl later) = inl (contained_later y ys x later)
      by (inr other) (inr none) = inr (λ h. elim (contained_cases y ys x h) as (λ _. ⊥) [ inl is ↦ other is | inr later ↦ none later ])
