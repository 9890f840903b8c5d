-- What a filter leaves, against `Contains`.
use Rattle.std.proofs.Common.{◌≡◌, Bool, true, false, cond, ⊎_elim, List, [], ◌∷◌, filter, Contains, sym, ap, subst, ◌∙◌, refl, arith}
use Rattle.std.proofs.lemmas.List.Elements.{All-contains, All-filter, All-contains_itself, filter_passes, Contains-append_right, Contains-append_cases, Contains-push_cases}

module _ {X : Type 0} (test : X → Bool) where
  pub Contains-from_filter : (xs : List X) (x : X) → Contains (filter test xs) x → Contains xs x × (test x ≡ true)
  Contains-from_filter xs x h = (
    All-contains (Contains xs) (filter test xs) x (All-filter test (Contains xs) xs (All-contains_itself xs)) h,
    All-contains (λ y. test y ≡ true) (filter test xs) x (filter_passes test xs) h,
  )

  pub Contains-filter : (xs : List X) (x : X) → Contains xs x → test x ≡ true → Contains (filter test xs) x
  Contains-filter [] x h passes = h
  Contains-filter (y ∷ ys) x h passes =
      ⊎_elim (λ (first : Contains (y ∷ []) x).
      let is : y ≡ x = ⊎_elim (λ none. absurd (omega (arith, none.1))) (λ e. e) (Contains-push_cases [] y x first) in
      subst (λ l. Contains l x) (sym (ap (λ b. cond b (y ∷ filter test ys) (filter test ys)) (ap test is ∙ passes)))
      (subst (λ z. Contains (z ∷ filter test ys) x) (sym is) (0, omega arith, refl)))
      (λ later. by (test y) (Contains-filter ys x later passes))
      (Contains-append_cases (y ∷ []) ys x h)
    where
      by : (b : Bool) → Contains (filter test ys) x → Contains (cond b (y ∷ filter test ys) (filter test ys)) x
      by true h = Contains-append_right (y ∷ []) (filter test ys) x h
      by false h = h
