-- The files of a work tree beside those of an index.
use Rattle.std.specs.Prelude.{◌≡◌, ◌⊎◌, ⊤, ℕ, Bool, List, Vec, Option, Some, None, IsSome, IsUtf8}
use Rattle.std.specs.BTreeSet.{BTreeSet, contains_by}
use Rattle.std.specs.Cmp.Lexicographic.{slice_cmp}
use Rattle.std.specs.FinMap.{get}
use Rattle.std.specs.Global.{Global}
use Rattle.std.specs.Ordering.{nat_cmp}
use Rattle.vc_files.specs.FileMap.{FileMap}
use Rattle.vc_object.specs.declared.mode.Mode.TheVariants as modes
use Rattle.vc_index.specs.IndexMap.{IndexMap}
use Rattle.vc_index.specs.Path.{IsAbove}
use Rattle.vc_index.specs.declared.entry.IndexEntry.{IndexEntry}

-- the path of each file is text
abbrev pub HasTextPaths : FileMap → Type 0
HasTextPaths work = (path : List ℕ) → IsSome (get work path) → IsUtf8 path

-- the work tree has a file at the path, and the index has no entry there
abbrev pub IsUntracked : IndexMap → FileMap → List ℕ → Type 0
IsUntracked index work path = IsSome (get work path) × (get index path ≡ None)

-- the index keeps no file there: it has no entry, or that of a commit of another repository
abbrev pub KeepsNone : Option IndexEntry → Type 0
KeepsNone None = ⊤
KeepsNone (Some entry) = entry.mode ≡ modes.Commit

-- the work tree has a file at the path, and the index keeps none there
abbrev pub IsUnkept : IndexMap → FileMap → List ℕ → Type 0
IsUnkept index work path = IsSome (get work path) × KeepsNone (get index path)

-- no file of the work tree lies above the path or below it
abbrev pub StandsAlone : FileMap → List ℕ → Type 0
StandsAlone work path = (other : List ℕ) → IsAbove other path ⊎ IsAbove path other → get work other ≡ None

-- no file of the work tree lies below another one
abbrev pub AreApart : FileMap → Type 0
AreApart work = (path other : List ℕ) → IsAbove path other → IsSome (get work path) → IsSome (get work other) → ⊥

-- whether a set of paths has the path
abbrev pub has_path : BTreeSet (Vec ℕ Global) → List ℕ → Bool
has_path paths path = contains_by (λ k. slice_cmp nat_cmp path k.items) paths
