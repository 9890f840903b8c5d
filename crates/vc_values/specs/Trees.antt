-- What the machine's rules say of trees: the index of one, and the trees of an index.
use Rattle.std.specs.Prelude.{◌≡◌, ℕ, List, map, Result, Ok, Err, option_map}
use Rattle.std.specs.FinMap.{get}
use Rattle.vc_format.specs.Git.{id_of_bytes}
use Rattle.vc_index.specs.FolderTrees.{AllFit, AreIndexTrees}
use Rattle.vc_index.specs.IndexMap.{IndexMap, IsIndex}
use Rattle.vc_index.specs.TreeReading.{TreeFault, ReadsAs}
use Rattle.vc_index.specs.TreeReading.TreeFault.{LongPath, OtherKind, NoObject}
use Rattle.vc_index.specs.WrittenTrees.{tree_object}
use Rattle.vc_index.specs.declared.entry.IndexEntry.{IndexEntry}
use Rattle.vc_model.specs.Object.{Objects, Id}
use Rattle.vc_model.specs.Repository.{Entry, Index}
use Rattle.vc_object.specs.Object.{object_name}
use Rattle.vc_object.specs.Tree.{Entry as TreeEntry, spelling}
use Rattle.vc_object.specs.declared.kind.Kind.TheVariants as kinds
use Rattle.vc_object_map.specs.Store.{with_objects}
use Rattle.vc_rules.specs.Git.{mode_number, stored_of, no_objects, layer_objects}

-- an entry of the index, as the machine has it
abbrev pub machine_entry : IndexEntry → Entry
machine_entry e = record { mode = mode_number e.mode; id = e.id.0 }

-- the machine's index is this one
abbrev pub ShowsIndex : Index → IndexMap → Type 0
ShowsIndex i m = (p : List ℕ) → get i p ≡ option_map machine_entry (get m p)

-- the number of each fault of a tree
abbrev pub tree_number : TreeFault → ℕ
tree_number LongPath = 60
tree_number (OtherKind path) = 63
tree_number (NoObject id) = 40

-- the index that a tree is read as among the machine's objects, or the number of its first fault
abbrev pub TreeGives : Objects → Id → Result Index ℕ → Type 0
TreeGives s x (Ok i) = (m : IndexMap) × ReadsAs (layer_objects s) (id_of_bytes x) (Ok m) × ShowsIndex i m
TreeGives s x (Err n) = (fault : TreeFault) × ReadsAs (layer_objects s) (id_of_bytes x) (Err fault) × (n ≡ tree_number fault)

-- the trees of the machine's index as one list, the root's of these entries
pub record ListsTrees (i : Index) (m : IndexMap) (trees : List (List TreeEntry)) (root : List TreeEntry) : Type 0 where
  pub sound : IsIndex m
  pub shows : ShowsIndex i m
  pub listed : AreIndexTrees m trees root

-- the machine's objects are these trees; of those that have one name it is the first
abbrev pub HoldsTrees : Objects → List (List TreeEntry) → Type 0
HoldsTrees s trees = (x : Id) → option_map stored_of (get s x) ≡ with_objects no_objects (map tree_object trees) (id_of_bytes x)

-- the trees of an index and the root's name, or that one of them is too large (3)
abbrev pub TreesGive : Index → Result (Objects × Id) ℕ → Type 0
TreesGive i (Ok t) = (m : IndexMap) × (trees : List (List TreeEntry)) × (root : List TreeEntry) × ListsTrees i m trees root × AllFit trees × HoldsTrees t.0 trees × (t.1 ≡ (object_name kinds.Tree (spelling root)).0)
TreesGive i (Err n) = (m : IndexMap) × (trees : List (List TreeEntry)) × (root : List TreeEntry) × ListsTrees i m trees root × (¬ AllFit trees) × (n ≡ 3)
