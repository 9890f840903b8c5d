-- Paths of files: names with a `/` between them.
use Rattle.std.specs.Prelude.{◌≡◌, ◌≤◌, ℕ, List, ◌∷◌, ◌++◌, length, ◌==◌}
use Rattle.std.specs.List.{AllByRecursion, slice_split}
use Rattle.vc_object.specs.Tree.{IsName}

-- what stands before, between and after the slashes
abbrev pub names_in : List ℕ → List (List ℕ)
names_in path = slice_split (λ b. b == 47) path

-- own: the most bytes of a path
abbrev pub max_path : ℕ
max_path = 4096

-- a path of a file: each part is a name that may stand in a tree, and it is not too long
pub record IsPath (path : List ℕ) : Type 0 where
  pub names : AllByRecursion IsName (names_in path)
  pub short : length path ≤ max_path

-- the first path is that of a folder above the second
abbrev pub IsAbove : List ℕ → List ℕ → Type 0
IsAbove folder path = (rest : List ℕ) × (path ≡ folder ++ 47 ∷ rest)
