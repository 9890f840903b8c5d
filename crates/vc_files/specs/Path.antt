-- Paths, of which one may lie in the folder of another.
use Rattle.std.specs.Prelude.{ℕ, Bool, nat_eq, List, [], ◌∷◌, ◌++◌}
use Rattle.std.specs.List.{starts_with}

-- whether the path lies in the folder, as `a/b` in `a`
abbrev pub is_above : (folder path : List ℕ) → Bool
is_above folder path = starts_with nat_eq path (folder ++ 47 ∷ [])
