-- Where the folder of a store lies in a work tree.
use Rattle.std.specs.Prelude.{◌≡◌, ◌⊎◌, ℕ, List, [], codes, true, false}
use Rattle.std.specs.Path.{PathStartsWith, StripsPrefix}
use Rattle.vc_work_folder.specs.Own.{is_own}

-- the store lies in the work tree, and this is its path there; or there is none to tell, since it lies elsewhere, or in `.git`,
-- to which no path of a work tree leads
abbrev pub IsOwnPath : List ℕ → List ℕ → List ℕ → Type 0
IsOwnPath store work own =
    (StripsPrefix store work own × (is_own (codes ".git") own ≡ false))
    ⊎ ((own ≡ []) × (((PathStartsWith store work) → ⊥) ⊎ ((path : List ℕ) × StripsPrefix store work path × (is_own (codes ".git") path ≡ true))))
