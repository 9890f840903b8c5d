-- The work tree after a checkout, path by path.
use Rattle.std.specs.Prelude.{◌≡◌, ◌≢◌, ◌⊎◌, ℕ, List, Option, Some, None, IsSome, option_map}
use Rattle.std.specs.FinMap.{get}
use Rattle.vc_files.specs.FileMap.{FileMap}
use Rattle.vc_object.specs.ObjectMap.{ObjectMap}
use Rattle.vc_object.specs.declared.id.ObjectId.{ObjectId}
use Rattle.vc_object.specs.declared.mode.Mode.{Mode}
use Rattle.vc_object.specs.declared.mode.Mode.TheVariants as modes
use Rattle.vc_index.specs.declared.entry.IndexEntry.{IndexEntry}
use Rattle.vc_index.specs.IndexMap.{IndexMap}

-- what is left of a file whose entry goes: a commit of another repository had none
abbrev pub left_of : Mode → Option (List ℕ) → Option (List ℕ)
left_of modes.Commit file = file
left_of _ file = None

-- the file that an entry is written as: its blob, be it a file or a link; none for a commit of another repository
abbrev pub file_of : ObjectMap → Mode → ObjectId → Option (List ℕ)
file_of objects modes.Commit id = None
file_of objects _ id = option_map (λ object. object.body) (objects id)

-- a file whose entry the tree lacks is taken away, and others stay
pub record IsCleared (old new : Option IndexEntry) (file after : Option (List ℕ)) : Type 0 where
  pub gone : (entry : IndexEntry) → old ≡ Some entry → new ≡ None → after ≡ left_of entry.mode file
  pub unknown : old ≡ None → after ≡ file
  pub kept : IsSome new → after ≡ file

-- a file that is due is written, and others stay
pub record IsWritten (objects : ObjectMap) (old new : Option IndexEntry) (file after : Option (List ℕ)) : Type 0 where
  pub due : (entry : IndexEntry) → new ≡ Some entry → old ≢ new → after ≡ file_of objects entry.mode entry.id
  pub same : old ≡ new → after ≡ file
  pub none : new ≡ None → after ≡ file

-- the file at a path after a checkout from what the index had there to what the tree has
pub record IsCheckedOut (objects : ObjectMap) (old new : Option IndexEntry) (file after : Option (List ℕ)) : Type 0 where
  pub same : old ≡ new → after ≡ file
  pub written : (entry : IndexEntry) → new ≡ Some entry → old ≢ new → after ≡ file_of objects entry.mode entry.id
  pub gone : (entry : IndexEntry) → old ≡ Some entry → new ≡ None → after ≡ left_of entry.mode file

-- after a fault a path has the file that it had, or the one that it was to have
abbrev pub IsOldOrCheckedOut : ObjectMap → IndexMap → IndexMap → FileMap → FileMap → List ℕ → Type 0
IsOldOrCheckedOut objects index tree old now path = (get now path ≡ get old path) ⊎ IsCheckedOut objects (get index path) (get tree path) (get old path) (get now path)

-- one path changed as told, and no other
pub record StepAt (IsStep : Option (List ℕ) → Option (List ℕ) → Type 0) (path : List ℕ) (old new : FileMap) : Type 0 where
  pub at : IsStep (get old path) (get new path)
  pub others : (other : List ℕ) → other ≢ path → get new other ≡ get old other

-- nothing changed, or one path did as told
abbrev pub StepOrNone : (Option (List ℕ) → Option (List ℕ) → Type 0) → List ℕ → FileMap → FileMap → Type 0
StepOrNone IsStep path old new = (new ≡ old) ⊎ StepAt IsStep path old new
