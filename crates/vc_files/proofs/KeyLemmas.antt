-- The keys of a map by byte texts strictly rise.
use Rattle.std.proofs.Common.{◌≡◌, ℕ, T, List, ◌∷◌, map, refl, []}
use Rattle.std.specs.Cmp.Lexicographic.{slice_cmp}
use Rattle.std.specs.FinMap.{is_sorted}
use Rattle.std.specs.FinMap.Entries.{below_all}
use Rattle.std.specs.List.{AllByRecursion}
use Rattle.std.specs.List.Sorted.{IsStrictlySortedBy}
use Rattle.std.specs.Ordering.{is_lt, nat_cmp}
use Rattle.std.specs.declared.cmp.Ordering.{Ordering}
use Rattle.std.specs.declared.cmp.Ordering.TheVariants.{Less, Equal, Greater}
use Rattle.vc_lemmas.proofs.Lists.{both_parts}

pub less_of : (o : Ordering) → T (is_lt o) → o ≡ Less
less_of Less h = refl
less_of Equal h = absurd h
less_of Greater h = absurd h

keys_below : {X : Type 0} (k : List ℕ) (es : List (List ℕ × X)) → T (below_all (slice_cmp nat_cmp) k es) → AllByRecursion (λ q. slice_cmp nat_cmp k q ≡ Less) (map (λ e. e.0) es)
keys_below k [] h = tt
keys_below k (e ∷ es) h = (less_of _ (both_parts _ _ h).0, keys_below k es (both_parts _ _ h).1)

pub keys_rise : {X : Type 0} (es : List (List ℕ × X)) → T (is_sorted (slice_cmp nat_cmp) es) → IsStrictlySortedBy (slice_cmp nat_cmp) (map (λ e. e.0) es)
unfolding IsStrictlySortedBy
keys_rise [] h = tt
keys_rise (e ∷ es) h = (keys_below e.0 es (both_parts _ _ h).0, keys_rise es (both_parts _ _ h).1)
