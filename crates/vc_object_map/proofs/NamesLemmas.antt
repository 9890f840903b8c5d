-- Sets of names against `Contains`.
use Rattle.std.proofs.Common.{◌≡◌, ℕ, ◌+◌, ◌<◌, Bool, true, false, not, ◌&&◌, List, ◌++◌, length, take, drop, get_or, Contains, ◌↔◌, ◌⊎◌, ⊎_elim, inl, inr, sym, ap, subst, ◌∙◌, refl, true≢false, arith, length-append}
use Rattle.std.proofs.Math.ListN.{get_or-append}
use Rattle.std.proofs.lemmas.List.{get_or-append-add, take-append-drop}
use Rattle.std.proofs.lemmas.List.Elements.{Contains-append_right, Contains-append_cases}
use Rattle.std.proofs.lemmas.Map.Keys.{apart_from_distinct, IsDistinct-from_apart}
use Rattle.std.specs.Cmp.{IsEquivalence}
use Rattle.std.specs.List.{list_any, IsDistinct}
use Rattle.std.specs.Set.{IsDifference, IsIntersection, is_member}
use Rattle.std.proofs.lemmas.Map.Views.{list_any-from_Contains, Contains-from_any}

module _ {Id : Type 0} {eq : Id → Id → Bool} (laws : IsEquivalence eq) (same : (x y : Id) → eq x y ≡ true → x ≡ y) where
  -- a name is in a list or not
  pub Contains-cases : (xs : List Id) (id : Id) → Contains xs id ⊎ (¬ Contains xs id)
  Contains-cases xs id = by (list_any (eq id) xs) refl
    where
      by : (b : Bool) → list_any (eq id) xs ≡ b → Contains xs id ⊎ (¬ Contains xs id)
      by true e = inl (Contains-from_any same id xs e)
      by false e = inr (λ h. true≢false (sym (list_any-from_Contains laws id xs h) ∙ e))

  -- the names of a difference
  pub Contains-IsDifference : (xs ys zs : List Id) → IsDifference eq xs ys zs → (id : Id) → Contains zs id ↔ (Contains xs id × ¬ Contains ys id)
  Contains-IsDifference xs ys zs diff id = (to, from)
    where
      split : (a b : Bool) → (a && not b) ≡ true → (a ≡ true) × (b ≡ false)
      split true true h = absurd (true≢false (sym h))
      split true false h = (refl, refl)
      split false b h = absurd (true≢false (sym h))

      to : Contains zs id → Contains xs id × ¬ Contains ys id
      to h =
          let both = split (list_any (eq id) xs) (list_any (eq id) ys) (sym (diff id) ∙ list_any-from_Contains laws id zs h) in
          (Contains-from_any same id xs both.0, λ other. true≢false (sym (list_any-from_Contains laws id ys other) ∙ both.1))

      from : Contains xs id × ¬ Contains ys id → Contains zs id
      from h = Contains-from_any same id zs (diff id ∙ by (list_any (eq id) ys) refl)
        where
          by : (b : Bool) → list_any (eq id) ys ≡ b → (list_any (eq id) xs && not (list_any (eq id) ys)) ≡ true
          by true e = absurd (h.1 (Contains-from_any same id ys e))
          by false e = ap (λ a. a && not (list_any (eq id) ys)) (list_any-from_Contains laws id xs h.0) ∙ ap not e

  -- the names of an intersection
  pub Contains-IsIntersection : (xs ys zs : List Id) → IsIntersection eq xs ys zs → (id : Id) → Contains zs id ↔ (Contains xs id × Contains ys id)
  Contains-IsIntersection xs ys zs both id = (to, from)
    where
      split : (a b : Bool) → (a && b) ≡ true → (a ≡ true) × (b ≡ true)
      split true b h = (refl, h)
      split false b h = absurd (true≢false (sym h))

      to : Contains zs id → Contains xs id × Contains ys id
      to h =
          let each = split (list_any (eq id) xs) (list_any (eq id) ys) (sym (both id) ∙ list_any-from_Contains laws id zs h) in
          (Contains-from_any same id xs each.0, Contains-from_any same id ys each.1)

      from : Contains xs id × Contains ys id → Contains zs id
      from h = Contains-from_any same id zs
          (both id ∙ ap (λ a. a && list_any (eq id) ys) (list_any-from_Contains laws id xs h.0) ∙ list_any-from_Contains laws id ys h.1)

  -- lists in which a look-up finds the same
  pub Contains-same_members : (xs ys : List Id) → ((q : Id) → is_member eq xs q ≡ is_member eq ys q) → (id : Id) → Contains xs id ↔ Contains ys id
  Contains-same_members xs ys members id = (
    λ h. Contains-from_any same id ys (sym (members id) ∙ list_any-from_Contains laws id xs h),
    λ h. Contains-from_any same id xs (members id ∙ list_any-from_Contains laws id ys h),
  )

-- ---- the parts of a list of names that are all different
module _ {Id : Type 0} (eq : Id → Id → Bool) where
  pub IsDistinct-append_right : (xs ys : List Id) → IsDistinct eq (xs ++ ys) → IsDistinct eq ys
  IsDistinct-append_right xs ys distinct =
      let apart : (i j : ℕ) (d : Id) → i < j → j < length ys → eq (get_or ys i d) (get_or ys j d) ≡ false = λ i j d before within.
      let later : eq (get_or (xs ++ ys) (length xs + i) d) (get_or (xs ++ ys) (length xs + j) d) ≡ false =
      apart_from_distinct eq (xs ++ ys) (length xs + i) (length xs + j) d distinct (omega (arith, before)) (omega (arith, within, length-append xs ys)) in
      rw (get_or-append-add xs ys i d, get_or-append-add xs ys j d) at later in
      IsDistinct-from_apart eq ys apart

  module _ (laws : IsEquivalence eq) where
    -- no name of the later part is in the earlier one
    pub Contains-apart : (xs ys : List Id) → IsDistinct eq (xs ++ ys) → (y : Id) → Contains ys y → ¬ Contains xs y
    Contains-apart xs ys distinct y later earlier =
        let apart = apart_from_distinct eq (xs ++ ys) earlier.0 (length xs + later.0) y distinct (omega (arith, earlier.1)) (omega (arith, later.1, length-append xs ys)) in
        let first : get_or (xs ++ ys) earlier.0 y ≡ y = get_or-append xs ys y earlier.0 earlier.1 ∙ earlier.2 in
        let second : get_or (xs ++ ys) (length xs + later.0) y ≡ y = get_or-append-add xs ys later.0 y ∙ later.2 in
        true≢false (sym (laws.refl y) ∙ sym (ap (λ x. eq x y) first) ∙ sym (ap (eq (get_or (xs ++ ys) earlier.0 y)) second) ∙ apart)

    -- the names from a place on are those that are not before it
    pub Contains-drop : (xs : List Id) (n : ℕ) → IsDistinct eq xs → (y : Id) → Contains (drop n xs) y ↔ (Contains xs y × ¬ Contains (take n xs) y)
    Contains-drop xs n distinct y =
        let whole : take n xs ++ drop n xs ≡ xs = take-append-drop n xs in
        let parted : IsDistinct eq (take n xs ++ drop n xs) = subst (IsDistinct eq) (sym whole) distinct in (
          λ h. (subst (λ l. Contains l y) whole (Contains-append_right (take n xs) (drop n xs) y h), Contains-apart (take n xs) (drop n xs) parted y h),
          λ h. ⊎_elim (λ early. absurd (h.1 early)) (λ late. late) (Contains-append_cases (take n xs) (drop n xs) y (subst (λ l. Contains l y) (sym whole) h.0)),
        )

    pub IsDistinct-drop : (xs : List Id) (n : ℕ) → IsDistinct eq xs → IsDistinct eq (drop n xs)
    IsDistinct-drop xs n distinct = IsDistinct-append_right (take n xs) (drop n xs) (subst (IsDistinct eq) (sym (take-append-drop n xs)) distinct)
