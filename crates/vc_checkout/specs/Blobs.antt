-- The blobs that a checkout writes, and why one of them refuses it.
use Rattle.std.specs.Prelude.{◌≡◌, ◌≢◌, ℕ, List, Option, Some, None}
use Rattle.std.specs.Cmp.Lexicographic.{slice_cmp}
use Rattle.std.specs.FinMap.{get}
use Rattle.std.specs.Ordering.{nat_cmp}
use Rattle.std.specs.declared.cmp.Ordering.TheVariants.{Less}
use Rattle.vc_files.specs.FileMap.{FileMap}
use Rattle.vc_object.specs.Decoding.{StoredObject}
use Rattle.vc_object.specs.ObjectMap.{ObjectMap}
use Rattle.vc_object.specs.declared.id.ObjectId.{ObjectId}
use Rattle.vc_object.specs.declared.kind.Kind.TheVariants as kinds
use Rattle.vc_object.specs.declared.mode.Mode.TheVariants as modes
use Rattle.vc_object_map.specs.Store.{IsDamaged, objects}
use Rattle.vc_object_map.specs.declared.faults.StoreFault.{StoreFault}
use Rattle.vc_object_map.specs.declared.faults.StoreFault.TheVariants.{Damaged}
use Rattle.vc_index.specs.IndexMap.{IndexMap}
use Rattle.vc_index.specs.Loading.{IsBlobIfDue}
use Rattle.vc_index.specs.declared.entry.IndexEntry.{IndexEntry}
use Rattle.vc_index.specs.declared.faults.IndexFault.{IndexFault}
use Rattle.vc_index.specs.declared.faults.IndexFault.TheVariants.{WrongEntry, Missing, Store}

-- a file or a link that is due has its blob
abbrev pub HasDueBlob : ObjectMap → Option IndexEntry → Option IndexEntry → Type 0
HasDueBlob objects old new = (entry : IndexEntry) → new ≡ Some entry → old ≢ new → IsBlobIfDue objects entry

-- each one has
abbrev pub HasDueBlobs : ObjectMap → IndexMap → IndexMap → Type 0
HasDueBlobs objects index tree = (path : List ℕ) → HasDueBlob objects (get index path) (get tree path)

-- the file of this name is no object of the name
abbrev pub BlamesStored : FileMap → ObjectId → StoreFault → Type 0
BlamesStored content id (Damaged damaged) = (damaged ≡ id) × IsDamaged content id
BlamesStored content id _ = ⊥

-- why the blob of this name is not there, for the file at the path: there is no object of the name, it is of another kind, or
-- its file is damaged
abbrev pub BlamesBlob : FileMap → List ℕ → ObjectId → IndexFault → Type 0
BlamesBlob content path id (Missing absent) = (absent ≡ id) × (objects content id ≡ None)
BlamesBlob content path id (WrongEntry at) = (at.items ≡ path) × (object : StoredObject) × (objects content id ≡ Some object) × (object.kind ≢ kinds.Blob)
BlamesBlob content path id (Store fault) = BlamesStored content id fault
BlamesBlob content path id _ = ⊥

-- a file or a link is due, and its blob is not there
abbrev pub BlamesDue : FileMap → Option IndexEntry → Option IndexEntry → List ℕ → IndexFault → Type 0
BlamesDue content old new path cause = (entry : IndexEntry) × (new ≡ Some entry) × (old ≢ new) × (entry.mode ≢ modes.Commit) × BlamesBlob content path entry.id cause

-- the first path by bytes at which that is so
abbrev pub BlamesBlobs : FileMap → IndexMap → IndexMap → IndexFault → Type 0
BlamesBlobs content index tree cause =
    (path : List ℕ) × BlamesDue content (get index path) (get tree path) path cause × ((before : List ℕ) → slice_cmp nat_cmp before path ≡ Less → HasDueBlob (objects content) (get index before) (get tree before))
