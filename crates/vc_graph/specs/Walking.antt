-- What a walk over names that were met does, from one place to another.
use Rattle.std.specs.Prelude.{◌≡◌, ◌≤◌, ◌<◌, ℕ, List, Option, Some, None, Contains, get_or, length, slice_get}
use Rattle.vc_object_map.specs.Graph.{ReachedFrom}

module _ {Id : Type 0} (links : Id → Option (List Id)) where
  -- The names that were met are read from one place to another. Each of these is there and its links were met too, and what was met on
  -- the way is reached from what was met before.
  pub record GoesOn (old : List Id) (from : ℕ) (new : List Id) (to : ℕ) : Type 0 where
    pub reached : (y : Id) → Contains new y → ReachedFrom links old y
    pub within : from ≤ length old → to ≤ length new
    pub followed : (k : ℕ) (d : Id) → from ≤ k → k < to → (ys : List Id) × (links (get_or new k d) ≡ Some ys) × ((y : Id) → Contains ys y → Contains new y)

  -- to the end, or to the first name that is absent
  abbrev pub GoesTo : List Id → ℕ → List Id → Option ℕ → Type 0
  GoesTo old from new None = GoesOn old from new (length new)
  GoesTo old from new (Some place) = GoesOn old from new place × ((x : Id) → slice_get new place ≡ Some x → links x ≡ None)
