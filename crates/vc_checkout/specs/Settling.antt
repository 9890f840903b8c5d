-- What the work tree has where a checkout was cut short.
use Rattle.std.specs.Prelude.{◌≡◌, ◌≢◌, ◌⊎◌, List, Option, Some, None, option_map, ℕ}
use Rattle.std.specs.FinMap.{get, insert}
use Rattle.vc_files.specs.FileMap.{FileMap}
use Rattle.vc_object.specs.declared.id.ObjectId.{ObjectId}
use Rattle.vc_object.specs.declared.mode.Mode.TheVariants as modes
use Rattle.vc_index.specs.IndexMap.{IndexMap}
use Rattle.vc_index.specs.declared.entry.IndexEntry.{IndexEntry}
use Rattle.vc_work_tree.specs.Paths.{blob_name}

-- the entry is that of a file or a link with this name
abbrev pub IsNamed : Option IndexEntry → ObjectId → Type 0
IsNamed None name = ⊥
IsNamed (Some entry) name = (entry.mode ≢ modes.Commit) × (entry.id ≡ name)

-- the file is what the new entry has, and not what the old one has
abbrev pub IsBrought : Option IndexEntry → Option IndexEntry → ObjectId → Type 0
IsBrought old new name = ¬ (IsNamed old name) × IsNamed new name

-- The entry that tells what is at a path where a checkout from the old entry to the new one was cut short, by the name of the file
-- that is there. Where the two differ and no file is there, none does; what was brought is the new one; all else is the old one, or
-- a person's change of it.
abbrev pub IsSettled : Option IndexEntry → Option IndexEntry → Option ObjectId → Option IndexEntry → Type 0
IsSettled old new None now = ((old ≡ new) × (now ≡ old)) ⊎ ((old ≢ new) × (now ≡ None))
IsSettled old new (Some name) now = (IsBrought old new name × (now ≡ new)) ⊎ (¬ (IsBrought old new name) × (now ≡ old))

-- the same of a path of an index, of the tree that was to be brought, and of the work tree
abbrev pub IsSettledAt : IndexMap → IndexMap → FileMap → List ℕ → Option IndexEntry → Type 0
IsSettledAt index tree work path now = IsSettled (get index path) (get tree path) (option_map blob_name (get work path)) now

-- the index of what the work tree has
abbrev pub Settles : IndexMap → IndexMap → FileMap → IndexMap → Type 0
Settles index tree work settled = (path : List ℕ) → IsSettledAt index tree work path (get settled path)

-- the entry was put at the path, if there is one
abbrev pub Puts : Option IndexEntry → List ℕ → IndexMap → IndexMap → Type 0
Puts None path old new = new ≡ old
Puts (Some entry) path old new = new ≡ insert old path entry

-- the path was settled: its entry was put there
abbrev pub SettlesPath : IndexMap → IndexMap → FileMap → List ℕ → IndexMap → IndexMap → Type 0
SettlesPath index tree work path old new = (now : Option IndexEntry) × IsSettledAt index tree work path now × Puts now path old new

-- a path may be settled in the index: each entry that it has is that of what the work tree has
abbrev pub AreSettled : IndexMap → IndexMap → FileMap → IndexMap → Type 0
AreSettled index tree work settled = (path : List ℕ) (entry : IndexEntry) → get settled path ≡ Some entry → IsSettledAt index tree work path (Some entry)
