-- How many of the first moments some names have: the names are known to be reached from elsewhere.
use Rattle.std.specs.Prelude.{◌≤◌, ◌<◌, ℕ, List, Contains, length}
use Rattle.vc_known.specs.Layers.{last_roots}

module _ {Id : Type 0} (moments : List (List Id)) (names : List Id) where
  -- each root of the last of the first `count` moments is one of the names
  abbrev pub HasMoment : ℕ → Type 0
  HasMoment count = (x : Id) → Contains (last_roots moments count) x → Contains names x

  -- it is so of this count of moments, and of no greater one
  pub record IsLastCommon (count : ℕ) : Type 0 where
    pub moment : count ≤ length moments
    pub has : HasMoment count
    pub last : (more : ℕ) → count < more → more ≤ length moments → ¬ HasMoment more
