-- What files and stored trees by their paths hold together.
use Rattle.std.specs.Prelude.{◌≡◌, ◌≢◌, ℕ, List, [], ◌∷◌, ◌++◌, ◌⊎◌}
use Rattle.vc_object.specs.ObjectMap.{ObjectMap}
use Rattle.vc_object.specs.Tree.{Entry}
use Rattle.vc_object.specs.declared.id.ObjectId.{ObjectId}
use Rattle.vc_object.specs.declared.mode.Mode.{Mode}
use Rattle.vc_object.specs.declared.mode.Mode.TheVariants as modes
use Rattle.vc_index.specs.IndexMap.{index_entry}
use Rattle.vc_index.specs.TreeFiles.{IsFileOfTree}
use Rattle.vc_index.specs.declared.entry.IndexEntry.{IndexEntry}

-- a path, and what stands there
abbrev pub Pair : Type 0
Pair = List ℕ × IndexEntry

-- what stands before the names in a folder of this path
abbrev pub under : List ℕ → List ℕ
under [] = []
under (x ∷ path) = (x ∷ path) ++ 47 ∷ []

-- the pair is this file, or a tree that has it
abbrev pub Has : ObjectMap → Pair → List ℕ → Mode → ObjectId → Type 0
Has objects e path mode id =
    ((e.1.mode ≢ modes.Tree) × (e.0 ≡ path) × (e.1.mode ≡ mode) × (e.1.id ≡ id))
    ⊎ ((e.1.mode ≡ modes.Tree) × ((q : List ℕ) × (path ≡ under e.0 ++ q) × IsFileOfTree objects e.1.id q mode id))

-- one of the pairs is or has it
abbrev pub HasFile : ObjectMap → List Pair → List ℕ → Mode → ObjectId → Type 0
HasFile objects [] path mode id = ⊥
HasFile objects (e ∷ es) path mode id = Has objects e path mode id ⊎ HasFile objects es path mode id

-- an entry of a folder, by its path
abbrev pub placed : List ℕ → Entry → Pair
placed folder e = (folder ++ e.name, index_entry e.mode e.id)
