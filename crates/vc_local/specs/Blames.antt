-- What refuses a local command, by its files.
use Rattle.std.specs.Prelude.{◌≡◌, ◌⊎◌, ℕ, List, Some, Ok, Err, true, nat_eq, string_bytes, codes}
use Rattle.std.specs.List.{starts_with}
use Rattle.vc_files.specs.FileMap.{FileMap}
use Rattle.vc_index.specs.IndexMap.{IndexMap, HasConflict}
use Rattle.vc_index.specs.IndexText.{TextFault}
use Rattle.vc_index.specs.Loading.{IsOfLoad}
use Rattle.vc_index.specs.Path.{IsPath}
use Rattle.vc_index.specs.TreeReading.{TreeFault, ReadsAs, tree_fault}
use Rattle.vc_index.specs.declared.faults.IndexFault.{IndexFault}
use Rattle.vc_object.specs.Object.{IsObject, object_name}
use Rattle.vc_object.specs.ObjectId.{is_id}
use Rattle.vc_object.specs.ObjectFault.{BodyFault}
use Rattle.vc_object.specs.declared.id.ObjectId.{ObjectId}
use Rattle.vc_object.specs.declared.kind.Kind.{Kind}
use Rattle.vc_object.specs.declared.kind.Kind.TheVariants as kinds
use Rattle.vc_refs.specs.RefFault.{BlamesObstacle, BlamesRef, BlamesHead as BlamesHeadFile, BlamesPacking as BlamesRefs}
use Rattle.vc_refs.specs.RefMap.{is_ref}
use Rattle.vc_refs.specs.Refs.{IsBadRef}
use Rattle.vc_refs.specs.Obstacle.{IsFree}
use Rattle.vc_refs.specs.declared.heads.Head.{Head}
use Rattle.vc_refs.specs.declared.heads.Head.TheVariants as head
use Rattle.vc_refs.specs.declared.faults.RefFault.{RefFault}
use Rattle.vc_refs.specs.declared.faults.RefFault.TheVariants as ref
use Rattle.vc_object_map.specs.Store.{objects, IsDamaged}
use Rattle.vc_object_map.specs.StoreFault.{IsFault as IsStoreFault}
use Rattle.vc_object_map.specs.declared.faults.StoreFault.{StoreFault}
use Rattle.vc_object_map.specs.declared.faults.StoreFault.TheVariants as store
use Rattle.vc_local.specs.GoodCommit.{IsGoodBeyondRefs, BlamesCommit}
use Rattle.vc_local.specs.IndexFile.{index_bytes}
use Rattle.vc_local.specs.NodeFault.{of_index}
use Rattle.vc_local.specs.declared.fault.NodeFault.{NodeFault}
use Rattle.vc_local.specs.declared.fault.NodeFault.TheVariants.{Store, Ref, Missing, NotACommit, BadPath, PathConflict, BadIndex}

-- a put is refused for the body, or for the damaged file in the object's place
abbrev pub BlamesBody : FileMap → Kind → List ℕ → StoreFault → Type 0
BlamesBody content kind body (store.BadObject fault) = BodyFault kind body fault
BlamesBody content kind body (store.Absent id) = ⊥
BlamesBody content kind body (store.Damaged id) = IsDamaged content id
BlamesBody content kind body (store.Fault fault) = Unit {0}

-- a write is refused so
abbrev pub BlamesWrite : FileMap → Kind → List ℕ → NodeFault → Type 0
BlamesWrite content kind body (Store fault) = BlamesBody content kind body fault
BlamesWrite content kind body _ = ⊥

-- a file is staged at no path that is none (60), then at none that conflicts with the index (61), then with no body
-- that is too large
abbrev pub BlamesStaged : FileMap → IndexMap → List ℕ → List ℕ → StoreFault → Type 0
BlamesStaged content m path body (store.BadObject fault) = IsPath path × (¬ HasConflict m path) × BodyFault kinds.Blob body fault
BlamesStaged content m path body (store.Absent id) = ⊥
BlamesStaged content m path body (store.Damaged id) = IsDamaged content id
BlamesStaged content m path body (store.Fault fault) = Unit {0}

abbrev pub BlamesAdd : FileMap → IndexMap → List ℕ → List ℕ → NodeFault → Type 0
BlamesAdd content m path body BadPath = ¬ IsPath path
BlamesAdd content m path body PathConflict = IsPath path × HasConflict m path
BlamesAdd content m path body (Store fault) = BlamesStaged content m path body fault
BlamesAdd content m path body _ = ⊥

-- only a fault
abbrev pub IsOfMemory : NodeFault → Type 0
IsOfMemory (Store (store.Fault fault)) = Unit {0}
IsOfMemory (Ref (ref.Fault fault)) = Unit {0}
IsOfMemory _ = ⊥

-- a look at refs is refused for what stands in the way of the name, or for the file that says the ref's value
abbrev pub BlamesName : FileMap → List ℕ → RefFault → Type 0
BlamesName content name (ref.Stale current) = ⊥
BlamesName content name (ref.Conflict other) = BlamesObstacle content name (ref.Conflict other)
BlamesName content name (ref.BadRefFile path) = BlamesObstacle content name (ref.BadRefFile path) ⊎ BlamesRef content name (ref.BadRefFile path)
BlamesName content name ref.HeadLoop = ⊥
BlamesName content name (ref.Fault fault) = Unit {0}

-- a branch is set in no way that conflicts (32), and to none but a good commit (40, 41)
abbrev pub BlamesBranch : FileMap → List ℕ → ObjectId → NodeFault → Type 0
BlamesBranch content name id (Ref fault) = BlamesName content name fault
BlamesBranch content name id (Missing absent) = IsFree content name × BlamesCommit content id (Missing absent)
BlamesBranch content name id (NotACommit other) = IsFree content name × BlamesCommit content id (NotACommit other)
BlamesBranch content name id (Store fault) = BlamesCommit content id (Store fault)
BlamesBranch content name id _ = ⊥

-- a path that may stand in the index beside its files, and a body of a blob
pub record MayStage (m : IndexMap) (path body : List ℕ) : Type 0 where
  pub legal : IsPath path
  pub free : ¬ HasConflict m path
  pub object : IsObject kinds.Blob body
  pub id : is_id (object_name kinds.Blob body) ≡ true

-- a ref is set in no way that conflicts
abbrev pub BlamesPut : FileMap → List ℕ → NodeFault → Type 0
BlamesPut content name (Ref fault) = BlamesName content name fault
BlamesPut content name _ = ⊥

-- a ref is set to a good commit, in no way that conflicts
abbrev pub MayBranch : FileMap → List ℕ → ObjectId → Type 0
MayBranch content name id = (is_ref name ≡ true) × IsFree content name × IsGoodBeyondRefs content id

-- HEAD becomes any branch, and no id but that of a good commit
abbrev pub MayHead : FileMap → Head → Type 0
MayHead content (head.Branch name) = Unit {0}
MayHead content (head.Id id) = IsGoodBeyondRefs content id

abbrev pub BlamesHead : FileMap → Head → NodeFault → Type 0
BlamesHead content h (Ref (ref.Fault fault)) = Unit {0}
BlamesHead content (head.Id id) e = BlamesCommit content id e
BlamesHead content (head.Branch name) e = ⊥

-- a tree is loaded that is read as an index
abbrev pub MayLoad : FileMap → ObjectId → Type 0
MayLoad content id = (m : IndexMap) × ReadsAs (objects content) id (Ok m)

-- a tree is not loaded for its first fault, for the file of an entry that is damaged, or for a failure
abbrev pub BlamesLoad : FileMap → ObjectId → NodeFault → Type 0
BlamesLoad content id e = ((f : IndexFault) × (e ≡ of_index f) × IsOfLoad (Unit {0}) content id f × ((fault : TreeFault) → tree_fault f ≡ Some fault → ReadsAs (objects content) id (Err fault))) ⊎ IsOfMemory e

-- a ref is removed whatever it is
abbrev pub BlamesRemoved : FileMap → NodeFault → Type 0
BlamesRemoved content (Ref (ref.BadRefFile path)) = IsBadRef content (string_bytes path)
BlamesRemoved content (Ref (ref.Fault fault)) = Unit {0}
BlamesRemoved content _ = ⊥

-- refs are packed where each of their files can be read, and none of them is a folder of another
abbrev pub BlamesPacking : FileMap → NodeFault → Type 0
BlamesPacking content (Ref fault) = BlamesRefs content fault
BlamesPacking content _ = ⊥

-- a damaged file is damaged
abbrev pub IsOfStoredDamage : FileMap → StoreFault → Type 0
IsOfStoredDamage content (store.Damaged id) = IsDamaged content id
IsOfStoredDamage content _ = Unit {0}

abbrev pub TellsDamage : FileMap → NodeFault → Type 0
TellsDamage content (Store fault) = IsOfStoredDamage content fault
TellsDamage content _ = Unit {0}

-- a HEAD that a clone may be given: a branch, or any id
abbrev pub IsLocalHead : Head → Type 0
IsLocalHead (head.Branch name) = starts_with nat_eq name (codes "refs/heads/") ≡ true
IsLocalHead (head.Id id) = Unit {0}

-- files are opened whose index and HEAD say what they are
abbrev pub BlamesOpen : FileMap → NodeFault → Type 0
BlamesOpen content (Store fault) = IsStoreFault fault
BlamesOpen content (BadIndex place) = TextFault (index_bytes content) place
BlamesOpen content (Ref fault) = BlamesHeadFile content fault
BlamesOpen content _ = ⊥
