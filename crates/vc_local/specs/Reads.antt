-- Which files a command reads, of those that may be bad.
use Rattle.std.specs.Prelude.{◌≡◌, ◌⊎◌, ℕ, List, [], ◌∷◌, Some, codes, string_bytes}
use Rattle.vc_files.specs.FileMap.{FileMap}
use Rattle.vc_object_map.specs.Graph.{ReachedFrom}
use Rattle.vc_index.specs.FolderTrees.{IsIndexTree}
use Rattle.vc_index.specs.IndexMap.{IndexMap}
use Rattle.vc_index.specs.Loading.{IsEntryOfTree}
use Rattle.vc_object.specs.Object.{object_name}
use Rattle.vc_object.specs.ObjectMap.{links_in}
use Rattle.vc_object.specs.declared.id.ObjectId.{ObjectId}
use Rattle.vc_object.specs.declared.kind.Kind.TheVariants as kinds
use Rattle.vc_object.specs.declared.mode.Mode.{Mode}
use Rattle.vc_refs.specs.Head.{head_of}
use Rattle.vc_refs.specs.Refs.{packed_path}
use Rattle.vc_refs.specs.Obstacle.{IsFirstInTheWay}
use Rattle.vc_refs.specs.declared.faults.RefFault.{RefFault}
use Rattle.vc_refs.specs.declared.faults.RefFault.TheVariants as ref
use Rattle.vc_refs.specs.declared.heads.Head.{Head}
use Rattle.vc_refs.specs.declared.heads.Head.TheVariants as heads
use Rattle.vc_object_map.specs.Store.{objects}
use Rattle.vc_object_map.specs.declared.faults.StoreFault.{StoreFault}
use Rattle.vc_object_map.specs.declared.faults.StoreFault.TheVariants as store
use Rattle.vc_local.specs.Commit.{made_body, parents_of_commit}
use Rattle.vc_local.specs.IndexFile.{SpellsIndex}
use Rattle.vc_local.specs.Making.{HasRoot}
use Rattle.vc_local.specs.declared.fault.NodeFault.{NodeFault}
use Rattle.vc_local.specs.declared.fault.NodeFault.TheVariants.{Store, Ref}
use Rattle.vc_local.specs.declared.committing.Words.{Words}

-- no file
abbrev pub NoneRead : {X : Type 0} → X → Type 0
NoneRead x = ⊥

abbrev pub IsOfObject : (ObjectId → Type 0) → StoreFault → Type 0
IsOfObject IsRead (store.Damaged id) = IsRead id
IsOfObject IsRead _ = Unit {0}

abbrev pub IsOfPath : (List ℕ → Type 0) → RefFault → Type 0
IsOfPath IsRead (ref.BadRefFile path) = IsRead (string_bytes path)
IsOfPath IsRead _ = Unit {0}

-- A bad file that is told is that of one of these objects, or the one of these paths.
abbrev pub TellsRead : (ObjectId → Type 0) → (List ℕ → Type 0) → NodeFault → Type 0
TellsRead IsObject IsPath (Store e) = IsOfObject IsObject e
TellsRead IsObject IsPath (Ref e) = IsOfPath IsPath e
TellsRead IsObject IsPath _ = Unit {0}

-- what one of the ids reaches
abbrev pub IsReachedByOne : FileMap → List ObjectId → ObjectId → Type 0
IsReachedByOne content ids = ReachedFrom (links_in (objects content)) ids

-- what the id reaches
abbrev pub IsReached : FileMap → ObjectId → ObjectId → Type 0
IsReached content id = IsReachedByOne content (id ∷ [])

-- an entry of the tree, or the tree
abbrev pub IsBelow : FileMap → ObjectId → ObjectId → Type 0
IsBelow content root id = (path : List ℕ) × (mode : Mode) × IsEntryOfTree (objects content) root path mode id

-- what HEAD is to be, where it is no branch
abbrev pub IsReachedByHead : FileMap → Head → ObjectId → Type 0
IsReachedByHead content (heads.Branch name) = NoneRead
IsReachedByHead content (heads.Id id) = IsReached content id

-- the ref's own file, or the packed one
abbrev pub IsItsFile : List ℕ → List ℕ → Type 0
IsItsFile name path = (path ≡ name) ⊎ (path ≡ packed_path)

-- or the first that is in its way
abbrev pub IsAtName : FileMap → List ℕ → List ℕ → Type 0
IsAtName content name path = IsItsFile name path ⊎ IsFirstInTheWay content name path

-- of a HEAD that names a branch, what is at that name
abbrev pub IsAtBranch : FileMap → Head → List ℕ → Type 0
IsAtBranch content (heads.Branch name) = IsAtName content name
IsAtBranch content (heads.Id id) = NoneRead

-- HEAD's own file, or what is at the branch that it names
abbrev pub IsAtHead : FileMap → List ℕ → Type 0
IsAtHead content path = (path ≡ codes "HEAD") ⊎ ((head : Head) × (head_of content ≡ Some head) × IsAtBranch content head path)

-- a tree of the index, or the commit of its root's
abbrev pub IsMade : IndexMap → List ObjectId → (author committer message : List ℕ) → ObjectId → Type 0
IsMade m parents author committer message id =
    IsIndexTree m id ⊎ ((tree : ObjectId) × HasRoot m tree × (id ≡ object_name kinds.Commit (made_body tree parents author committer message)))

-- what an extra parent reaches, or what is made of the index
abbrev pub IsOfCommit : FileMap → List ObjectId → (author committer message : List ℕ) → ObjectId → Type 0
IsOfCommit content extra author committer message id =
    IsReachedByOne content extra id ⊎ ((m : IndexMap) × SpellsIndex content m × IsMade m (parents_of_commit content extra) author committer message id)

abbrev pub IsOfSaid : FileMap → List ObjectId → Words → ObjectId → Type 0
IsOfSaid content extra words id = IsOfCommit content extra words.author.now words.committer.now words.message.now id
