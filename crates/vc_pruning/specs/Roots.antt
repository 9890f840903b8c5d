-- What refs, a detached HEAD and the files of the index name, and what is there of all that these reach.
use Rattle.std.specs.Prelude.{◌≡◌, ◌⊎◌, ℕ, List, Option, Some, None, IsSome, ⊤}
use Rattle.std.specs.FinMap.{get}
use Rattle.vc_files.specs.FileMap.{FileMap}
use Rattle.vc_index.specs.IndexMap.{IndexMap}
use Rattle.vc_index.specs.IndexText.{TextFault}
use Rattle.vc_index.specs.declared.entry.IndexEntry.{IndexEntry}
use Rattle.vc_local.specs.IndexFile.{SpellsIndex, index_bytes}
use Rattle.vc_local.specs.declared.fault.NodeFault.{NodeFault}
use Rattle.vc_local.specs.declared.fault.NodeFault.TheVariants.{Store, Ref, BadIndex}
use Rattle.vc_object.specs.ObjectMap.{links_in}
use Rattle.vc_object.specs.declared.id.ObjectId.{ObjectId}
use Rattle.vc_object.specs.declared.mode.Mode.{Mode}
use Rattle.vc_object.specs.declared.mode.Mode.TheVariants as modes
use Rattle.vc_object_map.specs.Present.{IsPresentFrom}
use Rattle.vc_object_map.specs.Graph.{AreExactly, ReachedFrom}
use Rattle.vc_object_map.specs.Store.{HasFile, IsDamaged, objects}
use Rattle.vc_object_map.specs.StoreFault.{IsFault}
use Rattle.vc_object_map.specs.declared.faults.StoreFault.TheVariants as store
use Rattle.vc_pack.specs.Answer.{IsRefValue}
use Rattle.vc_refs.specs.RefFault.{BlamesHead, BlamesList, IsGoodHead}
use Rattle.vc_refs.specs.Refs.{SpellsRefs}

-- the object that an entry of the index names; a commit of another repository is none of this one's
abbrev pub staged_id : Mode → ObjectId → Option ObjectId
staged_id modes.Commit id = None
staged_id _ id = Some id

abbrev pub staged_in : List ℕ × IndexEntry → Option ObjectId
staged_in e = staged_id e.1.mode e.1.id

-- a file of the index names the object
pub record IsStaged (m : IndexMap) (id : ObjectId) : Type 0 where
  pub path : List ℕ
  pub entry : IndexEntry
  pub found : get m path ≡ Some entry
  pub names : staged_id entry.mode entry.id ≡ Some id

-- a ref, a detached HEAD or a file of the index names the object
abbrev pub IsRoot : FileMap → IndexMap → ObjectId → Type 0
IsRoot content m id = IsRefValue content id ⊎ IsStaged m id

-- the roots are not read for a bad file of the refs, of HEAD or of the index
abbrev pub BlamesRoots : FileMap → NodeFault → Type 0
BlamesRoots content (Store fault) = IsFault fault
BlamesRoots content (Ref fault) = BlamesList content fault ⊎ BlamesHead content fault
BlamesRoots content (BadIndex place) = TextFault (index_bytes content) place
BlamesRoots content _ = ⊥

-- every ref, HEAD and the index can be read
pub record IsReadable (content : FileMap) : Type 0 where
  pub refs : SpellsRefs content
  pub head : IsGoodHead content
  pub index : (m : IndexMap) × SpellsIndex content m

-- they can be read, and these are exactly the roots
pub record AreRoots (content : FileMap) (ids : List ObjectId) : Type 0 where
  pub readable : IsReadable content
  pub exact : (m : IndexMap) → SpellsIndex content m → AreExactly (IsRoot content m) ids

-- and these are exactly the objects that are there and that a root reaches through those that are there
pub record AreNeeded (content : FileMap) (ids : List ObjectId) : Type 0 where
  pub roots : List ObjectId
  pub are_roots : AreRoots content roots
  pub exact : AreExactly (IsPresentFrom (objects content) roots) ids

-- each file in an object's place is an object
abbrev pub AreWhole : FileMap → Type 0
AreWhole content = (id : ObjectId) → HasFile content id → IsSome (objects content id)

-- what is needed isn't found for a bad file of the refs, of HEAD or of the index, or for a damaged object that a root reaches
abbrev pub BlamesNeeded : FileMap → NodeFault → Type 0
BlamesNeeded content (Store (store.Damaged id)) = IsDamaged content id × ((roots : List ObjectId) × AreRoots content roots × ReachedFrom (links_in (objects content)) roots id)
BlamesNeeded content e = BlamesRoots content e

-- a prune is refused for a bad file of the refs, of HEAD or of the index, or for a damaged object
abbrev pub BlamesPrune : FileMap → NodeFault → Type 0
BlamesPrune content (Store (store.Damaged id)) = IsDamaged content id
BlamesPrune content e = BlamesRoots content e

-- a prune may end so after it has begun to take objects away
abbrev pub EndsRemoval : NodeFault → Type 0
EndsRemoval (Store (store.Damaged id)) = ⊤
EndsRemoval (Store (store.Fault fault)) = ⊤
EndsRemoval _ = ⊥
