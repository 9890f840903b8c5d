-- What a tree is read as: the index of its files, or the first fault that is met. The tree itself is looked at first, by the
-- empty path, and right after a folder the entries of its tree, in their order. Either all that the entries name is looked
-- for, or the trees alone.
use Rattle.std.specs.Prelude.{◌≡◌, ◌≢◌, ◌<◌, ◌≤◌, ◌⊎◌, ◌↔◌, ℕ, List, [], ◌∷◌, ◌++◌, length, map, Option, Some, None, Result, Ok, Err, MatchResult}
use Rattle.std.specs.FinMap.{get}
use Rattle.vc_object.specs.Decoding.{StoredObject, stored_object}
use Rattle.vc_object.specs.ObjectMap.{ObjectMap}
use Rattle.vc_object.specs.Tree.{Entry}
use Rattle.vc_object.specs.declared.id.ObjectId.{ObjectId}
use Rattle.vc_object.specs.declared.kind.Kind.{Kind}
use Rattle.vc_object.specs.declared.mode.Mode.{Mode}
use Rattle.vc_object.specs.declared.mode.Mode.TheVariants as modes
use Rattle.vc_index.specs.HeldFiles.{Pair, under, placed}
use Rattle.vc_index.specs.IndexMap.{IndexMap, index_entry}
use Rattle.vc_index.specs.Loading.{IsDueIn, IsEntryOfTree, IsSought}
use Rattle.vc_index.specs.TreeFiles.{IsTreeAt, IsFileOfTree}
use Rattle.vc_index.specs.declared.faults.IndexFault.{IndexFault}
use Rattle.vc_index.specs.declared.faults.IndexFault.TheVariants.{BadPath, PathConflict, BadIndex, WrongEntry, Missing, Store}
use Rattle.vc_index.specs.declared.loading.Look.{Look}
use Rattle.vc_index.specs.declared.loading.Look.TheVariants as looks
use Rattle.vc_index.specs.Path.{max_path}

-- what may be at fault at an entry: its path is too long, its object is of another kind, or there is none
pub data TreeFault : Type 0 where
  LongPath : TreeFault
  OtherKind : List ℕ → TreeFault
  NoObject : ObjectId → TreeFault

-- the entry has this fault: where its path is too long, no object is looked for
abbrev pub HasFaultIn : Look → ObjectMap → Pair → TreeFault → Type 0
HasFaultIn look objects e LongPath = max_path < length e.0
HasFaultIn look objects e (OtherKind path) = (length e.0 ≤ max_path) × (path ≡ e.0) × (kind : Kind) × (object : StoredObject) × IsDueIn look e.1.mode kind × (objects e.1.id ≡ Some object) × (object.kind ≢ kind)
HasFaultIn look objects e (NoObject id) = (length e.0 ≤ max_path) × (id ≡ e.1.id) × IsSought look e.1.mode × (objects e.1.id ≡ None)

-- the entry's path is not too long, where it is looked at an object of the kind that its mode asks for is there, and a
-- folder's is a legal tree
pub record IsSoundIn (look : Look) (objects : ObjectMap) (e : Pair) : Type 0 where
  pub short : length e.0 ≤ max_path
  pub object : (kind : Kind) → IsDueIn look e.1.mode kind → (body : List ℕ) × (objects e.1.id ≡ Some (stored_object kind body))
  pub tree : e.1.mode ≡ modes.Tree → (entries : List Entry) × IsTreeAt objects e.1.id entries

-- the entries of a folder's tree, by their paths; anything else has none
abbrev pub AreInside : ObjectMap → Pair → List Pair → Type 0
AreInside objects e inside =
    ((e.1.mode ≡ modes.Tree) × (entries : List Entry) × IsTreeAt objects e.1.id entries × (inside ≡ map (placed (under e.0)) entries))
    ⊎ ((e.1.mode ≢ modes.Tree) × (inside ≡ []))

-- from these entries on, sound ones are passed first, and then one is met that has the fault
abbrev pub MeetsFaultIn : Look → ObjectMap → (passed : List Pair) → (entries : List Pair) → TreeFault → Type 0
MeetsFaultIn look objects [] entries fault = (e : Pair) × (later : List Pair) × (entries ≡ e ∷ later) × HasFaultIn look objects e fault
MeetsFaultIn look objects (e ∷ passed) entries fault =
    (inside : List Pair) × (later : List Pair) × (entries ≡ e ∷ later) × IsSoundIn look objects e × AreInside objects e inside × MeetsFaultIn look objects passed (inside ++ later) fault

-- the tree and each entry of it, and of the trees below it, is sound
abbrev pub IsCompleteIn : Look → ObjectMap → ObjectId → Type 0
IsCompleteIn look objects root = (path : List ℕ) (mode : Mode) (id : ObjectId) → IsEntryOfTree objects root path mode id → IsSoundIn look objects (path, index_entry mode id)

-- the index has the files of the tree, and no others
abbrev pub IsIndexOfTree : ObjectMap → ObjectId → IndexMap → Type 0
IsIndexOfTree objects root index = (path : List ℕ) (mode : Mode) (id : ObjectId) → IsFileOfTree objects root path mode id ↔ (get index path ≡ Some (index_entry mode id))

-- the index of a tree of which all that is looked at is there, or the first fault
abbrev pub ReadsIn : Look → ObjectMap → ObjectId → Result IndexMap TreeFault → Type 0
ReadsIn look objects root (Ok index) =
    IsCompleteIn look objects root × IsIndexOfTree objects root index
ReadsIn look objects root (Err fault) = (passed : List Pair) × MeetsFaultIn look objects passed (([], index_entry modes.Tree root) ∷ []) fault

-- ---- where all that the entries name is looked for

abbrev pub IsComplete : ObjectMap → ObjectId → Type 0
IsComplete objects root = IsCompleteIn looks.All objects root

abbrev pub ReadsAs : ObjectMap → ObjectId → Result IndexMap TreeFault → Type 0
ReadsAs objects root v = ReadsIn looks.All objects root v

-- ---- where the trees alone are: what a tree lists, whether the files are there or not

abbrev pub ListsAs : ObjectMap → ObjectId → Result IndexMap TreeFault → Type 0
ListsAs objects root v = ReadsIn looks.Trees objects root v

-- the fault of a tree that a refusal tells; a failure tells none, and neither does a damaged file
abbrev pub tree_fault : IndexFault → Option TreeFault
tree_fault BadPath = Some LongPath
tree_fault PathConflict = None
tree_fault (BadIndex place) = None
tree_fault (WrongEntry at) = Some (OtherKind at.items)
tree_fault (Missing id) = Some (NoObject id)
tree_fault (Store fault) = None

-- a reading is what a call answered: its index, or the fault that its refusal tells
abbrev pub IsAnswered : Result IndexMap TreeFault → Result IndexMap IndexFault → Type 0
IsAnswered v result = MatchResult result (λ index. v ≡ Ok index) (λ e. (fault : TreeFault) → tree_fault e ≡ Some fault → v ≡ Err fault)
