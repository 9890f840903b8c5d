-- The folders of a work tree after a checkout.
use Rattle.std.specs.Prelude.{◌≡◌, ◌≢◌, ◌⊎◌, ℕ, List, Option, Some, None, IsUtf8}
use Rattle.std.specs.FinMap.{get}
use Rattle.vc_files.specs.FileMap.{FileMap}
use Rattle.vc_object.specs.declared.mode.Mode.TheVariants as modes
use Rattle.vc_index.specs.IndexMap.{IndexMap}
use Rattle.vc_index.specs.Path.{IsAbove}
use Rattle.vc_index.specs.declared.entry.IndexEntry.{IndexEntry}
use Rattle.vc_work_tree.specs.Folders.{Folders, IsAtOrIn, IsFolder}

-- the folder is there for an entry at the path: the entry lies in it, or it is that of a commit of another repository
abbrev pub IsFolderFor : IndexEntry → List ℕ → List ℕ → Type 0
IsFolderFor entry path folder = IsAbove folder path ⊎ ((folder ≡ path) × (entry.mode ≡ modes.Commit))

-- the entry that the folder was there for goes, at a path that is text
abbrev pub IsLeft : Option IndexEntry → Option IndexEntry → List ℕ → List ℕ → Type 0
IsLeft old new path folder = (entry : IndexEntry) × (old ≡ Some entry) × (new ≡ None) × IsUtf8 path × IsFolderFor entry path folder

-- the entry is a file or a link, and its path is the folder's or that of a folder above it
abbrev pub TakesPlace : IndexEntry → List ℕ → List ℕ → Type 0
TakesPlace entry path folder = (entry.mode ≢ modes.Commit) × IsAtOrIn path folder

-- an entry is written that takes the folder's place
abbrev pub GivesWay : Option IndexEntry → Option IndexEntry → List ℕ → List ℕ → Type 0
GivesWay old new path folder = (entry : IndexEntry) × (new ≡ Some entry) × (old ≢ new) × TakesPlace entry path folder

-- the folder is that of a commit of another repository
abbrev pub IsLink : IndexEntry → List ℕ → List ℕ → Type 0
IsLink entry path folder = (folder ≡ path) × (entry.mode ≡ modes.Commit)

-- a commit of another repository gets a folder
abbrev pub IsLinked : Option IndexEntry → Option IndexEntry → Type 0
IsLinked old new = (entry : IndexEntry) × (new ≡ Some entry) × (old ≢ new) × (entry.mode ≡ modes.Commit)

-- an entry is written that the folder is there for
abbrev pub IsMadeFor : Option IndexEntry → Option IndexEntry → List ℕ → List ℕ → Type 0
IsMadeFor old new path folder = (entry : IndexEntry) × (new ≡ Some entry) × (old ≢ new) × IsFolderFor entry path folder

-- the same, at any path
abbrev pub IsLeftBy : IndexMap → IndexMap → List ℕ → Type 0
IsLeftBy index tree folder = (path : List ℕ) × IsLeft (get index path) (get tree path) path folder

abbrev pub GivesWayBy : IndexMap → IndexMap → List ℕ → Type 0
GivesWayBy index tree folder = (path : List ℕ) × GivesWay (get index path) (get tree path) path folder

abbrev pub IsMadeBy : IndexMap → IndexMap → List ℕ → Type 0
IsMadeBy index tree folder = (path : List ℕ) × IsMadeFor (get index path) (get tree path) path folder

-- the folder was there, no entry goes that it was there for, and it gives way to no file
abbrev pub Stays : IndexMap → IndexMap → (List ℕ → Type 0) → List ℕ → Type 0
Stays index tree Was folder = Was folder × ¬ (IsLeftBy index tree folder) × ¬ (GivesWayBy index tree folder)

-- a commit of another repository gets the folder, or it stays
abbrev pub IsFolderAfter : IndexMap → IndexMap → (List ℕ → Type 0) → List ℕ → Type 0
IsFolderAfter index tree Was folder = IsLinked (get index folder) (get tree folder) ⊎ Stays index tree Was folder

-- each of the least is a folder, and each folder is one of the most
pub record AreBetween (work : FileMap) (folders : Folders) (Least Most : List ℕ → Type 0) : Type 0 where
  pub least : (folder : List ℕ) → Least folder → IsFolder work folders folder
  pub most : (folder : List ℕ) → IsFolder work folders folder → Most folder

-- after a fault: a folder that was to stay is there, and each that is there was there or is there for an entry that was to be
-- written
abbrev pub AreFoldersBegun : IndexMap → IndexMap → FileMap → Folders → FileMap → Folders → Type 0
AreFoldersBegun index tree old was new folders = AreBetween new folders (Stays index tree (IsFolder old was)) (λ one. IsFolder old was one ⊎ IsMadeBy index tree one)
