-- What the roots of a graph reached at successive moments. Each moment makes a layer, and a name is in the first layer whose roots
-- reach it. So one table of layers tells of each moment what its roots reached. `moments` gives the roots of each moment, the first
-- moment first, and `layers` the layer of each name that has one, from 0 on.
use Rattle.std.specs.Prelude.{◌≡◌, ◌↔◌, ◌<◌, ◌≤◌, [], ℕ, zero, suc, Bool, false, not, nat_lt, List, Option, Some, None, IsSome, Contains, filter, get_or, length}
use Rattle.std.specs.Option.{option_map}
use Rattle.vc_object_map.specs.Graph.{ReachedFrom}

-- whether a layer is one of the first `count`
abbrev pub is_below : ℕ → Option ℕ → Bool
is_below count None = false
is_below count (Some layer) = nat_lt layer count

module _ {Id : Type 0} where
  -- the name is in one of the first `count` layers
  pub record IsWithin (layers : Id → Option ℕ) (count : ℕ) (x : Id) : Type 0 where
    pub layer : ℕ
    pub has : layers x ≡ Some layer
    pub first : layer < count

  -- the roots of the last of the first `count` moments, and none where there is no moment
  abbrev pub last_roots : List (List Id) → ℕ → List Id
  last_roots moments zero = []
  last_roots moments (suc before) = get_or moments before []

  -- the names of a list that are in none of the first `count` layers
  abbrev pub above : (Id → Option ℕ) → ℕ → List Id → List Id
  above layers count ids = filter (λ id. not (is_below count (layers id))) ids

module _ {Id : Type 0} (links : Id → Option (List Id)) where
  -- these are the layers that the moments made: the first of them have exactly what the roots of the last of these reach, and each
  -- name that is in a layer is there
  pub record AreLayers (moments : List (List Id)) (layers : Id → Option ℕ) : Type 0 where
    pub exactly : (count : ℕ) → count ≤ length moments → (x : Id) → IsWithin layers count x ↔ ReachedFrom links (last_roots moments count) x
    pub there : (x : Id) (layer : ℕ) → layers x ≡ Some layer → (layer < length moments) × IsSome (links x)

  -- the roots reach each root of the last of the first `count` moments
  pub record ReachesLayers (moments : List (List Id)) (count : ℕ) (roots : List Id) : Type 0 where
    pub moment : count ≤ length moments
    pub reached : (x : Id) → Contains (last_roots moments count) x → ReachedFrom links roots x

  -- one layer more, for these roots: what was in a layer stays in it, and what the roots reach and was in none is in the new one
  pub record AddsLayer (moments : List (List Id)) (roots : List Id) (old new : Id → Option ℕ) : Type 0 where
    pub kept : (x : Id) (layer : ℕ) → old x ≡ Some layer → new x ≡ Some layer
    pub added : (x : Id) (layer : ℕ) → old x ≡ None → new x ≡ Some layer ↔ ((layer ≡ length moments) × ReachedFrom links roots x)

  -- a walk from the roots meets the name that does not go down to the first `count` layers: it passes over what is in these
  abbrev pub links_above : (Id → Option ℕ) → ℕ → Id → Option (List Id)
  links_above layers count x = option_map (above layers count) (links x)

  abbrev pub IsMetAbove : (Id → Option ℕ) → ℕ → List Id → Id → Type 0
  IsMetAbove layers count roots x = ReachedFrom (links_above layers count) (above layers count roots) x

  -- the roots reach the name, and it is in none of the first `count` layers
  abbrev pub IsReachedAbove : (Id → Option ℕ) → ℕ → List Id → Id → Type 0
  IsReachedAbove layers count roots x = ReachedFrom links roots x × ¬ IsWithin layers count x
