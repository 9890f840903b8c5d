-- Maps by the bytes of their keys, after one change.
use Rattle.std.proofs.Common.{◌≡◌, ℕ, Bool, true, false, cond, List, Option, Some, None, refl, ap, ◌∙◌}
use Rattle.std.specs.Prelude.{option_map, bytes_eq}
use Rattle.std.specs.FinMap.{FinMap, get, insert, remove, get-insert, get-remove}
use Rattle.std.specs.Ordering.{nat_cmp}
use Rattle.std.specs.Cmp.Lexicographic.{slice_cmp, nat_list_cmp_total}
use Rattle.std.proofs.lemmas.Map.Text.{is_eq-slice_cmp}

module _ {X : Type 0} (m : FinMap (slice_cmp nat_cmp) X) (k q : List ℕ) where
  pub get-put : (v : X) → get (insert m k v) q ≡ cond (bytes_eq q k) (Some v) (get m q)
  get-put v = get-insert nat_list_cmp_total m k v q ∙ ap (λ b. cond b (Some v) (get m q)) (is_eq-slice_cmp q k)

  pub get-unput : get (remove m k) q ≡ cond (bytes_eq q k) None (get m q)
  get-unput = get-remove nat_list_cmp_total m k q ∙ ap (λ b. cond b None (get m q)) (is_eq-slice_cmp q k)

-- under a condition, a function of either value
pub map_cond : {X Y : Type 0} (f : X → Y) (b : Bool) (a c : Option X) → cond b (option_map f a) (option_map f c) ≡ option_map f (cond b a c)
map_cond f true a c = refl
map_cond f false a c = refl
