-- How many entries a finite map has after a removal, and which objects a prune leaves that removes one after the other.
use Rattle.std.proofs.Common.{arith, ◌≡◌, ◌≢◌, ℕ, zero, suc, ◌+◌, ◌-◌, true, cond, Option, Some, None, ◌⊎◌, inl, inr, refl, sym, ap, subst, ◌∙◌, Ordering, true≢false}
use Rattle.std.specs.Prelude.{is_some}
use Rattle.std.proofs.lemmas.Option.{none-some}
use Rattle.std.specs.FinMap.{FinMap, get, remove, empty, len, contains_key, get-empty, get-remove, len-remove, empty_of_len}
use Rattle.std.specs.Cmp.{IsTotalOrder, eq_by_cmp_equiv}
use Rattle.std.specs.Cmp.Lexicographic.{nat_list_cmp_total}
use Rattle.vc_model.specs.Object.{Id, Object, Objects}
use Rattle.vc_model.specs.Repository.{Pruned, PartlyPruned}
use Rattle.vc_model.proofs.Maps.{bytes_same, remove_other, same_key}

module _ {K X : Type 0} {R : K → K → Ordering} (o : IsTotalOrder R) where
  one_less : (m : FinMap R X) (k : K) → contains_key m k ≡ true → (n : ℕ) → len m ≡ n → len (remove m k) + 1 ≡ len m
  one_less m k there zero none =
      let found : contains_key (empty {X = X} {R = R}) k ≡ true = subst (λ (e : FinMap R X). contains_key e k ≡ true) (empty_of_len m none) there in
      absurd (true≢false (sym found ∙ ap is_some (get-empty R k)))
  one_less m k there (suc n) some =
      let less : len (remove m k) ≡ len m - 1 = len-remove o m k ∙ ap (λ b. cond b (len m - 1) (len m)) there in
      omega (arith, less, some)

  -- an entry that is taken away is one less
  pub len-remove_there : (m : FinMap R X) (k : K) → contains_key m k ≡ true → len (remove m k) + 1 ≡ len m
  len-remove_there m k there = one_less m k there (len m) refl

-- ---- a prune, object by object
module _ (needed : Id → Type 0) where
  -- nothing is gone yet
  pub pruned_none : (s : Objects) → PartlyPruned needed s s
  pruned_none s x = inl refl

  -- one more is gone, which nothing needs
  pub pruned_one : (s now : Objects) (k : Id) → ¬ needed k → PartlyPruned needed s now → PartlyPruned needed s (remove now k)
  pruned_one s now k free partly x = by (same_key nat_list_cmp_total bytes_same x k) (partly x)
    where
      gone : get (remove now k) k ≡ None
      gone = get-remove nat_list_cmp_total now k k ∙ ap (λ b. cond b None (get now k)) ((eq_by_cmp_equiv nat_list_cmp_total).refl k)

      by : (x ≡ k) ⊎ (x ≢ k) → (get now x ≡ get s x) ⊎ ((¬ needed x) × (get now x ≡ None)) → (get (remove now k) x ≡ get s x) ⊎ ((¬ needed x) × (get (remove now k) x ≡ None))
      by (inl is) before = inr (subst (λ y. ¬ needed y) (sym is) free, ap (get (remove now k)) is ∙ gone)
      by (inr other) (inl kept) = inl (remove_other nat_list_cmp_total bytes_same now k x other ∙ kept)
      by (inr other) (inr went) = inr (went.0, remove_other nat_list_cmp_total bytes_same now k x other ∙ went.1)

  -- what is left is needed, and of what was absent it is known whether it is: then all are gone that nothing needs, and no others
  pub pruned_all : (s now : Objects) → PartlyPruned needed s now → ((x : Id) (o : Object) → get now x ≡ Some o → needed x) → ((x : Id) → get s x ≡ None → needed x ⊎ (¬ needed x)) → Pruned needed s now
  pruned_all s now partly left absent x = by (get now x) (get s x) refl refl (partly x)
    where
      none_then : get now x ≡ None → get s x ≡ None → needed x ⊎ (¬ needed x) → (needed x × (get now x ≡ get s x)) ⊎ ((¬ needed x) × (get now x ≡ None))
      none_then is was (inl is_so) = inl (is_so, is ∙ sym was)
      none_then is was (inr is_not) = inr (is_not, is)

      by : (a b : Option Object) → get now x ≡ a → get s x ≡ b → (get now x ≡ get s x) ⊎ ((¬ needed x) × (get now x ≡ None)) → (needed x × (get now x ≡ get s x)) ⊎ ((¬ needed x) × (get now x ≡ None))
      by (Some o) b is was (inl kept) = inl (left x o is, kept)
      by (Some o) b is was (inr went) = absurd (none-some o (sym went.1 ∙ is))
      by None None is was before = none_then is was (absent x was)
      by None (Some o) is was (inl kept) = absurd (none-some o (sym is ∙ kept ∙ was))
      by None (Some o) is was (inr went) = inr went
