-- What stands in the way of a ref among the loose files.
use Rattle.std.specs.Prelude.{◌≡◌, ◌≢◌, ℕ, true, false, List}
use Rattle.std.specs.Ordering.{nat_cmp}
use Rattle.std.specs.declared.cmp.Ordering.TheVariants.{Greater}
use Rattle.std.specs.Cmp.Lexicographic.{slice_cmp}
use Rattle.vc_files.specs.FileMap.{FileMap}
use Rattle.vc_files.specs.Path.{is_above}
use Rattle.vc_refs.specs.RefMap.{conflicts}
use Rattle.vc_refs.specs.Refs.{is_taken}

-- a file in `refs/`, whose path and this name are a folder of one another
pub record IsInTheWay (content : FileMap) (name path : List ℕ) : Type 0 where
  pub taken : is_taken content path ≡ true
  pub conflict : conflicts path name ≡ true

-- the first of them, by the bytes of the path
pub record IsFirstInTheWay (content : FileMap) (name path : List ℕ) : Type 0 where
  pub here : IsInTheWay content name path
  pub first : (q : List ℕ) → IsInTheWay content name q → slice_cmp nat_cmp path q ≢ Greater

-- nothing stands in the way
abbrev pub IsFree : FileMap → List ℕ → Type 0
IsFree content name = (path : List ℕ) → IsInTheWay content name path → ⊥

-- no file stands at a folder of the name
abbrev pub IsFreeAbove : FileMap → List ℕ → Type 0
IsFreeAbove content name = (path : List ℕ) → is_taken content path ≡ true → is_above path name ≡ false
