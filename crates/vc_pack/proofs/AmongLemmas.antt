-- A search in names that are sorted.
use Rattle.std.proofs.Common.{◌≡◌, ℕ, ◌+◌, ◌≤◌, true, List, length, get_or, Contains, ◌↔◌, Result, Ok, Err, sym, ap, subst, ◌∙◌, refl, arith, true≢false, Ordering, Less, Equal, Greater, inl, inr}
use Rattle.std.specs.Prelude.{is_ok}
use Rattle.std.specs.List.Sorted.{IsBinarySearchResult, IsNonDecreasingBy, IsSearchInRange}
use Rattle.std.specs.Ordering.{ordering_index, ordering_reverse, is_eq}
use Rattle.std.proofs.lemmas.Bool.{cases_lt}
use Rattle.std.proofs.lemmas.List.Sorted.{IsNonDecreasingBy-from_all_adjacent}
use Rattle.std.proofs.lemmas.Map.Keys.{Less-from_sorted}
use Rattle.std.specs.Cmp.{Equal-is}
use Rattle.vc_object.proofs.IdLemmas.{id_cmp_total, id_eq-same, id_eq_equiv, id_ties}
use Rattle.vc_object.specs.ObjectId.{id_cmp, IsSortedByName}
use Rattle.vc_object.specs.declared.id.ObjectId.{ObjectId}

-- names that compare as equal are the same
pub same_name : (a b : ObjectId) → id_cmp a b ≡ Equal → a ≡ b
same_name a b e = id_eq-same a b (id_ties a b ∙ ap is_eq e)

pub same_cmp : (a : ObjectId) → id_cmp a a ≡ Equal
same_cmp a = (Equal-is (id_cmp a a)).0 (sym (id_ties a a) ∙ id_eq_equiv.refl a)

rises : (a b q : ObjectId) → id_cmp a b ≡ Less → ordering_index (id_cmp a q) ≤ ordering_index (id_cmp b q)
rises a b q less = by (id_cmp a q) refl
  where
    by : (o : Ordering) → id_cmp a q ≡ o → ordering_index o ≤ ordering_index (id_cmp b q)
    by Less e = omega arith
    by Equal e =
        let above : id_cmp b q ≡ Greater = ap (id_cmp b) (sym (same_name a q e)) ∙ id_cmp_total.antisymm b a ∙ ap ordering_reverse less in
        subst (λ o. 1 ≤ ordering_index o) (sym above) (omega arith)
    by Greater e =
        let under : id_cmp q a ≡ Less = id_cmp_total.antisymm q a ∙ ap ordering_reverse e in
        let above : id_cmp b q ≡ Greater = id_cmp_total.antisymm b q ∙ ap ordering_reverse (id_cmp_total.trans q a b under less) in
        subst (λ o. 2 ≤ ordering_index o) (sym above) (omega arith)

module _ (ids : List ObjectId) (id : ObjectId) (sorted : IsSortedByName ids) where
  rising : IsNonDecreasingBy (λ y. ordering_index (id_cmp y id)) ids
  rising = IsNonDecreasingBy-from_all_adjacent (λ y. ordering_index (id_cmp y id)) ids
      (λ k d high. rises (get_or ids k d) (get_or ids (k + 1) d) id (Less-from_sorted id_cmp ids k (k + 1) d sorted (omega arith) high))

  not_less : Less ≡ Equal → ⊥
  not_less e = true≢false (sym (ap is_eq e))

  not_greater : Greater ≡ Equal → ⊥
  not_greater e = true≢false (sym (ap is_eq e))

  -- the search finds a name exactly if it is there
  pub found_name : (r : Result ℕ ℕ) → IsBinarySearchResult (λ y. id_cmp y id) ids r → IsSearchInRange r (length ids) → (is_ok r ≡ true) ↔ Contains ids id
  found_name (Ok i) at within = (λ yes. (i, within, same_name (get_or ids i id) id (at id)), λ h. refl)
  found_name (Err i) at within = (
    λ yes. absurd (true≢false (sym yes)),
    λ h.
        let parts = at rising in
        let equal : id_cmp (get_or ids h.0 id) id ≡ Equal = ap (λ y. id_cmp y id) h.2 ∙ same_cmp id in
        absurd (elim (cases_lt h.0 i) [
          | inl before ↦ not_less (sym (parts.0 h.0 id (omega arith) before) ∙ equal)
          | inr after ↦ not_greater (sym (parts.1 h.0 id after h.1) ∙ equal)
        ]),
  )
