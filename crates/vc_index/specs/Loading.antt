-- The index of a tree's files, read entry by entry.
use Rattle.std.specs.Prelude.{◌≡◌, ◌≢◌, ◌<◌, ◌≤◌, ◌⊎◌, ℕ, List, [], ◌∷◌, ◌++◌, length, map, reverse, Some, None, ⊤}
use Rattle.std.specs.FinMap.{get}
use Rattle.std.specs.List.{join_with_byte}
use Rattle.vc_files.specs.FileMap.{FileMap}
use Rattle.vc_object.specs.Decoding.{StoredObject, stored_object}
use Rattle.vc_object.specs.Entries.{entries_of}
use Rattle.vc_object.specs.ObjectMap.{ObjectMap}
use Rattle.vc_object.specs.Tree.{Entry, IsTree, spelling}
use Rattle.vc_object.specs.declared.id.ObjectId.{ObjectId}
use Rattle.vc_object.specs.declared.kind.Kind.{Kind}
use Rattle.vc_object.specs.declared.kind.Kind.TheVariants as kinds
use Rattle.vc_object.specs.declared.mode.Mode.{Mode}
use Rattle.vc_object.specs.declared.mode.Mode.TheVariants as modes
use Rattle.vc_object.specs.Object.{max_body}
use Rattle.vc_object_map.specs.Store.{objects, IsDamaged}
use Rattle.vc_object_map.specs.StoreFault.{IsRefused}
use Rattle.vc_object_map.specs.declared.faults.StoreFault.{StoreFault}
use Rattle.vc_object_map.specs.declared.faults.StoreFault.TheVariants.{BadObject, Absent, Damaged, Fault}
use Rattle.vc_index.specs.IndexMap.{IndexMap}
use Rattle.vc_index.specs.HeldFiles.{under, placed}
use Rattle.vc_index.specs.TreeFiles.{IsTreeAt, HasEntry}
use Rattle.vc_index.specs.declared.entry.IndexEntry.{IndexEntry}
use Rattle.vc_index.specs.declared.faults.IndexFault.{IndexFault}
use Rattle.vc_index.specs.declared.faults.IndexFault.TheVariants.{BadPath, PathConflict, BadIndex, WrongEntry, Missing, Store}
use Rattle.vc_index.specs.declared.loading.Item.{Item}
use Rattle.vc_index.specs.declared.loading.Look.{Look}
use Rattle.vc_index.specs.declared.loading.Look.TheVariants as looks
use Rattle.vc_index.specs.Path.{max_path}

-- the names lead from these entries through folders to an entry
abbrev pub ReachesEntry : ObjectMap → List Entry → List (List ℕ) → Mode → ObjectId → Type 0
ReachesEntry objects entries [] mode id = ⊥
ReachesEntry objects entries (name ∷ []) mode id = HasEntry entries mode name id
ReachesEntry objects entries (name ∷ next ∷ names) mode id =
    (folder : ObjectId) × (inner : List Entry) × HasEntry entries modes.Tree name folder × IsTreeAt objects folder inner × ReachesEntry objects inner (next ∷ names) mode id

-- the tree itself by the empty path, or an entry of it or of a tree below, of any mode
abbrev pub IsEntryOfTree : ObjectMap → ObjectId → List ℕ → Mode → ObjectId → Type 0
IsEntryOfTree objects root path mode id =
    ((path ≡ []) × (mode ≡ modes.Tree) × (id ≡ root))
    ⊎ ((entries : List Entry) × (names : List (List ℕ)) × IsTreeAt objects root entries × (path ≡ join_with_byte 47 names) × ReachesEntry objects entries names mode id)

-- the kind of object that an entry's mode asks for: a commit of another repository is not looked for
abbrev pub IsDue : Mode → Kind → Type 0
IsDue modes.Tree kind = kind ≡ kinds.Tree
IsDue modes.Commit kind = ⊥
IsDue _ kind = kind ≡ kinds.Blob

-- whether an entry of this mode is looked at: all but a commit of another repository, or the trees alone
abbrev pub IsSought : Look → Mode → Type 0
IsSought looks.Trees mode = mode ≡ modes.Tree
IsSought looks.All mode = mode ≢ modes.Commit

-- the kind of object that is asked for at an entry that is looked at
abbrev pub IsDueIn : Look → Mode → Kind → Type 0
IsDueIn looks.Trees mode kind = (mode ≡ modes.Tree) × (kind ≡ kinds.Tree)
IsDueIn looks.All mode kind = IsDue mode kind

-- an item's path, and what stands there
abbrev pub item_pair : Item → List ℕ × IndexEntry
item_pair item = (item.path.items, item.entry)

-- why an item's object was not found
abbrev pub IsOfLook : Type 0 → FileMap → Kind → Item → IndexFault → Type 0
IsOfLook honest content kind item (Missing id) = (id ≡ item.entry.id) × (honest → objects content id ≡ None)
IsOfLook honest content kind item (WrongEntry at) = (at.items ≡ item.path.items) × (honest → (object : StoredObject) × (objects content item.entry.id ≡ Some object) × (object.kind ≢ kind))
IsOfLook honest content kind item (Store fault) = IsRefused item.entry.id (honest → IsDamaged content item.entry.id) fault
IsOfLook honest content kind item _ = ⊥

abbrev pub IsOfLoadStored : Type 0 → FileMap → ObjectId → StoreFault → Type 0
IsOfLoadStored honest content root (BadObject fault) = ⊥
IsOfLoadStored honest content root (Absent absent) = ⊥
IsOfLoadStored honest content root (Damaged id) = honest → IsDamaged content id × ((path : List ℕ) × (mode : Mode) × IsEntryOfTree (objects content) root path mode id)
IsOfLoadStored honest content root (Fault fault) = ⊤

-- why a tree was not read: an entry's path is too long, an entry that is looked at names an object of another kind, its
-- object is absent or the file of that is damaged, or a fault
abbrev pub IsOfLoadIn : Look → Type 0 → FileMap → ObjectId → IndexFault → Type 0
IsOfLoadIn look honest content root BadPath = honest → (path : List ℕ) × (mode : Mode) × (id : ObjectId) × IsEntryOfTree (objects content) root path mode id × (max_path < length path)
IsOfLoadIn look honest content root PathConflict = honest → ⊥
IsOfLoadIn look honest content root (BadIndex place) = ⊥
IsOfLoadIn look honest content root (WrongEntry at) = honest → (mode : Mode) × (id : ObjectId) × (kind : Kind) × (object : StoredObject)
    × IsEntryOfTree (objects content) root at.items mode id × IsDueIn look mode kind × (objects content id ≡ Some object) × (object.kind ≢ kind)
IsOfLoadIn look honest content root (Missing id) = honest → (path : List ℕ) × (mode : Mode) × IsEntryOfTree (objects content) root path mode id × IsSought look mode × (objects content id ≡ None)
IsOfLoadIn look honest content root (Store fault) = IsOfLoadStored honest content root fault

-- the same where all entries are looked at
abbrev pub IsOfLoad : Type 0 → FileMap → ObjectId → IndexFault → Type 0
IsOfLoad honest content root e = IsOfLoadIn looks.All honest content root e

-- the same where the trees alone are
abbrev pub IsOfList : Type 0 → FileMap → ObjectId → IndexFault → Type 0
IsOfList honest content root e = IsOfLoadIn looks.Trees honest content root e

-- a file or a link has a blob
abbrev pub IsBlobIfDue : ObjectMap → IndexEntry → Type 0
IsBlobIfDue objects entry = (entry.mode ≢ modes.Commit) → (body : List ℕ) × (objects entry.id ≡ Some (stored_object kinds.Blob body))

-- each file and each link of the index has its blob
abbrev pub HasBlobs : ObjectMap → IndexMap → Type 0
HasBlobs objects m = (path : List ℕ) (entry : IndexEntry) → get m path ≡ Some entry → IsBlobIfDue objects entry

-- the item's tree was opened: its entries stand behind the items, the first one last
pub record IsOpened (honest : Type 0) (content : FileMap) (item : Item) (old new : List Item) : Type 0 where
  pub body : List ℕ
  pub more : List Item
  pub is : new ≡ old ++ more
  pub entries : map item_pair more ≡ reverse (map (placed (under item.path.items)) (entries_of body))
  pub few : length more ≤ max_body
  pub tree : IsTree (entries_of body)
  pub spelled : spelling (entries_of body) ≡ body
  pub stored : honest → objects content item.entry.id ≡ Some (stored_object kinds.Tree body)
