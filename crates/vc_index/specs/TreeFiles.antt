-- The files of a tree: the paths that lead through folders to entries of other modes (gitcore-tutorial).
use Rattle.std.specs.Prelude.{◌≡◌, ◌≢◌, ℕ, List, [], ◌∷◌, Some, ◌⊎◌}
use Rattle.std.specs.List.{join_with_byte}
use Rattle.vc_object.specs.Decoding.{stored_object}
use Rattle.vc_object.specs.ObjectMap.{ObjectMap}
use Rattle.vc_object.specs.Tree.{Entry, IsTree, spelling}
use Rattle.vc_object.specs.declared.id.ObjectId.{ObjectId}
use Rattle.vc_object.specs.declared.kind.Kind.TheVariants as kinds
use Rattle.vc_object.specs.declared.mode.Mode.{Mode}
use Rattle.vc_object.specs.declared.mode.Mode.TheVariants as modes

-- the id is that of a tree of these entries
pub record IsTreeAt (objects : ObjectMap) (id : ObjectId) (entries : List Entry) : Type 0 where
  pub stored : objects id ≡ Some (stored_object kinds.Tree (spelling entries))
  pub tree : IsTree entries

-- one of the entries has this mode, name and id
abbrev pub HasEntry : List Entry → Mode → List ℕ → ObjectId → Type 0
HasEntry [] mode name id = ⊥
HasEntry (entry ∷ others) mode name id = ((entry.mode ≡ mode) × (entry.name ≡ name) × (entry.id ≡ id)) ⊎ HasEntry others mode name id

-- the names lead from these entries through folders to an entry of another mode
abbrev pub LeadsTo : ObjectMap → List Entry → List (List ℕ) → Mode → ObjectId → Type 0
LeadsTo objects entries [] mode id = ⊥
LeadsTo objects entries (name ∷ []) mode id = HasEntry entries mode name id × (mode ≢ modes.Tree)
LeadsTo objects entries (name ∷ next ∷ names) mode id =
    (folder : ObjectId) × (inner : List Entry) × HasEntry entries modes.Tree name folder × IsTreeAt objects folder inner × LeadsTo objects inner (next ∷ names) mode id

-- the tree of this id has a file of this path, mode and id: the path's names lead to it
pub record IsFileOfTree (objects : ObjectMap) (root : ObjectId) (path : List ℕ) (mode : Mode) (id : ObjectId) : Type 0 where
  pub entries : List Entry
  pub names : List (List ℕ)
  pub at : IsTreeAt objects root entries
  pub is : path ≡ join_with_byte 47 names
  pub leads : LeadsTo objects entries names mode id
