-- The folders of a work tree.
use Rattle.std.specs.Prelude.{◌≡◌, ◌⊎◌, ◌↔◌, ℕ, List, String, map, string_bytes, IsSome, IsTrue}
use Rattle.std.specs.BTreeSet.{BTreeSet}
use Rattle.std.specs.Cmp.Lexicographic.{slice_cmp}
use Rattle.std.specs.FinMap.{get}
use Rattle.std.specs.FinSet.{FinSet, contains, from_list}
use Rattle.std.specs.Global.{Global}
use Rattle.std.specs.Ordering.{nat_cmp}
use Rattle.vc_files.specs.FileMap.{FileMap}
use Rattle.vc_index.specs.Path.{IsAbove}

-- the folders that are there of themselves, by the bytes of their paths: those in which something lies need not be among them
abbrev pub Folders : Type 0
Folders = FinSet (slice_cmp nat_cmp)

-- the path is that of the folder, or lies in it
abbrev pub IsAtOrIn : List ℕ → List ℕ → Type 0
IsAtOrIn folder path = (path ≡ folder) ⊎ IsAbove folder path

-- a file lies in the folder
abbrev pub HoldsFile : FileMap → List ℕ → Type 0
HoldsFile work folder = (path : List ℕ) × IsAbove folder path × IsSome (get work path)

-- a file lies in the folder, or it is one of these, or one of these lies in it
abbrev pub IsFolderBy : FileMap → (List ℕ → Type 0) → List ℕ → Type 0
IsFolderBy work IsOne folder = HoldsFile work folder ⊎ ((one : List ℕ) × IsOne one × IsAtOrIn folder one)

-- the path is that of a folder of the work tree
abbrev pub IsFolder : FileMap → Folders → List ℕ → Type 0
IsFolder work folders = IsFolderBy work (λ one. IsTrue (contains folders one))

-- the folders are these, those in which a file lies, and those in which one of these lies
pub record AreFolders (work : FileMap) (folders : Folders) (IsOne : List ℕ → Type 0) : Type 0 where
  pub exact : (folder : List ℕ) → IsFolder work folders folder ↔ IsFolderBy work IsOne folder

-- the folder is the lowest one above the path
pub record IsLowestAbove (folder path : List ℕ) : Type 0 where
  pub above : IsAbove folder path
  pub lowest : (other : List ℕ) → IsAbove other path → IsAtOrIn other folder

-- the folders that a set of texts holds, by the bytes of the texts
abbrev pub folders_of : BTreeSet (String Global) → Folders
folders_of s = from_list (map string_bytes s.keys)

-- the lowest folder above the path was added, if there is one
pub record IsNoted (path : List ℕ) (old new : Folders) : Type 0 where
  pub kept : (one : List ℕ) → IsTrue (contains old one) → IsTrue (contains new one)
  pub only : (one : List ℕ) → IsTrue (contains new one) → IsTrue (contains old one) ⊎ IsAbove one path
  pub all : (folder : List ℕ) → IsAbove folder path → (one : List ℕ) × IsTrue (contains new one) × IsAbove one path × IsAtOrIn folder one
