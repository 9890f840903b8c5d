-- The trees that an index is written as.
use Rattle.std.specs.Prelude.{◌≡◌, ◌≢◌, ◌⊎◌, ◌↔◌, ◌<◌, ℕ, List, [], ◌∷◌, ◌++◌, length, map, IsSome, Some, ⊤}
use Rattle.std.specs.List.{AllByRecursion}
use Rattle.std.specs.FinMap.{get}
use Rattle.vc_object.specs.Decoding.{StoredObject, stored_object}
use Rattle.vc_object.specs.Object.{object_name, max_body}
use Rattle.vc_object.specs.ObjectMap.{ObjectMap}
use Rattle.vc_object.specs.Tree.{Entry, IsTree, spelling}
use Rattle.vc_object.specs.declared.fault.ObjectFault.TheVariants.{TooLarge}
use Rattle.vc_object.specs.declared.id.ObjectId.{ObjectId}
use Rattle.vc_object.specs.declared.kind.Kind.TheVariants as kinds
use Rattle.vc_object.specs.declared.mode.Mode.{Mode}
use Rattle.vc_object.specs.declared.mode.Mode.TheVariants as modes
use Rattle.vc_index.specs.FolderTrees.{AllFit, AreFirstTrees, AreIndexTrees, IsFirstLarge, IsIndexTree}
use Rattle.vc_index.specs.IndexFault.{IsMemory}
use Rattle.vc_index.specs.IndexMap.{IndexMap, index_entry}
use Rattle.vc_index.specs.Part.{parts_size}
use Rattle.vc_index.specs.Path.{IsAbove}
use Rattle.vc_index.specs.TreeFiles.{IsFileOfTree}
use Rattle.vc_object_map.specs.Store.{with_objects}
use Rattle.vc_object_map.specs.declared.faults.StoreFault.{StoreFault}
use Rattle.vc_object_map.specs.declared.faults.StoreFault.TheVariants.{BadObject, Absent, Damaged, Fault}
use Rattle.vc_index.specs.declared.faults.IndexFault.{IndexFault}
use Rattle.vc_index.specs.declared.faults.IndexFault.TheVariants.{BadPath, PathConflict, BadIndex, WrongEntry, Missing, Store}
use Rattle.vc_index.specs.declared.trees.Part.{Part}

-- a tree as an object
abbrev pub tree_object : List Entry → StoredObject
tree_object entries = stored_object kinds.Tree (spelling entries)

-- the objects hold each of these trees under its name
abbrev pub Holds : ObjectMap → List (List Entry) → Type 0
Holds objects trees = AllByRecursion (λ entries. objects (object_name kinds.Tree (spelling entries)) ≡ Some (tree_object entries)) trees

-- one of the trees has the id
abbrev pub IsTreeOf : List (List Entry) → ObjectId → Type 0
IsTreeOf [] id = ⊥
IsTreeOf (entries ∷ trees) id = (id ≡ object_name kinds.Tree (spelling entries)) ⊎ IsTreeOf trees id

-- an entry leads to one of the trees, or to a file of the index
abbrev pub IsPart : IndexMap → List (List Entry) → Entry → Type 0
IsPart files trees entry = ((entry.mode ≡ modes.Tree) × IsTreeOf trees entry.id) ⊎ ((entry.mode ≢ modes.Tree) × ((path : List ℕ) × (get files path ≡ Some (index_entry entry.mode entry.id))))

-- the trees of folders, the lower ones first: none is empty, and each leads to those before it and to files
abbrev pub AreLowerTrees : IndexMap → List (List Entry) → List (List Entry) → Type 0
AreLowerTrees files before [] = Unit {0}
AreLowerTrees files before (entries ∷ trees) =
    (entries ≢ []) × IsTree entries × AllByRecursion (IsPart files before) entries × AreLowerTrees files (before ++ entries ∷ []) trees

-- the trees below the root, and the root's: where objects hold them all, the files of the root are those of the index
pub record AreTreesOf (files : IndexMap) (lower : List (List Entry)) (root : List Entry) : Type 0 where
  pub below : AreLowerTrees files [] lower
  pub tree : IsTree root
  pub parts : AllByRecursion (IsPart files lower) root
  pub same_files : (objects : ObjectMap) → Holds objects (lower ++ root ∷ []) → (path : List ℕ) (mode : Mode) (id : ObjectId)
      → IsFileOfTree objects (object_name kinds.Tree (spelling root)) path mode id ↔ (get files path ≡ Some (index_entry mode id))

-- the index was written: its trees, each of which fits, were stored, the lower ones first, folder by folder, and the id is
-- that of the root's
pub record IsWritten (honest : Type 0) (files : IndexMap) (old new : ObjectMap) (id : ObjectId) : Type 0 where
  pub lower : List (List Entry)
  pub root : List Entry
  pub trees : AreTreesOf files lower root
  pub is : id ≡ object_name kinds.Tree (spelling root)
  pub listed : AreIndexTrees files (lower ++ root ∷ []) root
  pub fits : AllFit (lower ++ root ∷ [])
  pub stored : honest → new ≡ with_objects old (map tree_object (lower ++ root ∷ []))

-- the first of the index's trees were stored, those below the root at most, and nothing else
pub record IsBegun (honest : Type 0) (files : IndexMap) (old new : ObjectMap) : Type 0 where
  pub trees : List (List Entry)
  pub lower : AreLowerTrees files [] trees
  pub first : AreFirstTrees files trees
  pub fits : AllFit trees
  pub stored : honest → new ≡ with_objects old (map tree_object trees)

-- an entry of the folder, whose path ends in `/` or is empty: a file of the index, or a folder that has one
abbrev pub IsOfFolder : IndexMap → List ℕ → Entry → Type 0
IsOfFolder files folder entry =
    ((entry.mode ≢ modes.Tree) × (get files (folder ++ entry.name) ≡ Some (index_entry entry.mode entry.id)))
    ⊎ ((entry.mode ≡ modes.Tree) × ((path : List ℕ) × IsSome (get files path) × IsAbove (folder ++ entry.name) path))

-- a folder of the index has a tree, the first of the index's whose spelling is longer than a body may be
pub record HasTooLarge (files : IndexMap) : Type 0 where
  pub folder : List ℕ
  pub entries : List Entry
  pub tree : IsTree entries
  pub each : AllByRecursion (IsOfFolder files folder) entries
  pub large : max_body < length (spelling entries)
  pub first : IsFirstLarge files entries

-- why the store did not take a tree of the index: the tree is too large, the file in its place is damaged, or a fault
abbrev pub IsOfTrees : IndexMap → (ObjectId → Type 0) → StoreFault → Type 0
IsOfTrees files IsDamaged (BadObject fault) = (fault ≡ TooLarge) × HasTooLarge files
IsOfTrees files IsDamaged (Absent id) = ⊥
IsOfTrees files IsDamaged (Damaged id) = IsIndexTree files id × IsDamaged id
IsOfTrees files IsDamaged (Fault fault) = ⊤

-- why an index was not written
abbrev pub IsOfWrite : IndexMap → (ObjectId → Type 0) → IndexFault → Type 0
IsOfWrite files IsDamaged (Store fault) = IsOfTrees files IsDamaged fault
IsOfWrite files IsDamaged BadPath = ⊥
IsOfWrite files IsDamaged PathConflict = ⊥
IsOfWrite files IsDamaged (BadIndex place) = ⊥
IsOfWrite files IsDamaged (WrongEntry at) = ⊥
IsOfWrite files IsDamaged (Missing id) = ⊥

-- the store did not take a tree: a file of the store is damaged, or a fault
abbrev pub IsOfStore : StoreFault → Type 0
IsOfStore (BadObject fault) = ⊥
IsOfStore (Absent id) = ⊥
IsOfStore (Damaged id) = ⊤
IsOfStore (Fault fault) = ⊤

-- the first trees may have been stored before the error
abbrev pub MayHaveBegun : IndexFault → Type 0
MayHaveBegun (Store fault) = IsOfStore fault
MayHaveBegun BadPath = ⊥
MayHaveBegun PathConflict = ⊥
MayHaveBegun (BadIndex place) = ⊥
MayHaveBegun (WrongEntry at) = ⊥
MayHaveBegun (Missing id) = ⊥

-- ---- before anything is stored

-- a growth was refused, or a tree is too large
abbrev pub IsOfJoining : IndexFault → Type 0
IsOfJoining fault = IsMemory fault ⊎ (fault ≡ Store (BadObject TooLarge))

-- the tree of the parts is too large
abbrev pub IsTooLong : List Part → IndexFault → Type 0
IsTooLong parts fault = (fault ≡ Store (BadObject TooLarge)) × (max_body < parts_size parts)
