-- What refuses a commit, in its order, and what one leaves that ended early.
use Rattle.std.specs.Prelude.{◌≡◌, ◌⊎◌, ℕ, Bool, List, [], ◌∷◌, Some, None, true, false, is_some, string_bytes, Contains, codes}
use Rattle.std.specs.List.{AllByRecursion}
use Rattle.vc_files.specs.FileMap.{FileMap, SameOutside}
use Rattle.vc_index.specs.FolderTrees.{AllFit, AreIndexTrees}
use Rattle.vc_index.specs.IndexMap.{IndexMap}
use Rattle.vc_index.specs.WrittenTrees.{HasTooLarge, IsBegun, IsWritten}
use Rattle.vc_object.specs.Object.{IsObject, object_name}
use Rattle.vc_object.specs.ObjectFault.{BodyFault}
use Rattle.vc_object.specs.ObjectMap.{ObjectMap}
use Rattle.vc_object.specs.Tree.{Entry, spelling}
use Rattle.vc_object.specs.declared.fault.ObjectFault.TheVariants.{BadCommit, TooLarge}
use Rattle.vc_object.specs.declared.kind.Kind.TheVariants as kinds
use Rattle.vc_object.specs.declared.id.ObjectId.{ObjectId}
use Rattle.vc_refs.specs.Head.{head_of}
use Rattle.vc_refs.specs.Refs.{refs, IsBadRef}
use Rattle.vc_refs.specs.Obstacle.{IsFirstInTheWay}
use Rattle.vc_refs.specs.declared.faults.RefFault.{RefFault}
use Rattle.vc_refs.specs.declared.faults.RefFault.TheVariants as ref
use Rattle.vc_refs.specs.declared.heads.Head.{Head}
use Rattle.vc_refs.specs.declared.heads.Head.TheVariants as heads
use Rattle.vc_object_map.specs.Store.{IsDamaged, objects}
use Rattle.vc_object_map.specs.StoreFault.{IsFault as IsStoreFault}
use Rattle.vc_object_map.specs.declared.faults.StoreFault.{StoreFault}
use Rattle.vc_object_map.specs.declared.faults.StoreFault.TheVariants as store
use Rattle.vc_local.specs.Blames.{BlamesPut, IsOfMemory}
use Rattle.vc_local.specs.Commit.{IsGoodParent, IsFreeHead, WritesCommit, made_body, parents_of_commit}
use Rattle.vc_local.specs.GoodCommit.{BlamesCommit}
use Rattle.vc_local.specs.IndexFile.{SpellsIndex, BlamesIndex}
use Rattle.vc_local.specs.Shown.{shown, with_objects_shown}
use Rattle.vc_local.specs.declared.committing.Words.{Words}
use Rattle.vc_local.specs.declared.fault.NodeFault.{NodeFault}
use Rattle.vc_local.specs.declared.fault.NodeFault.TheVariants.{Store, Ref, Down}

-- an author and a committer of one line
abbrev pub AreLines : List ℕ → List ℕ → Type 0
AreLines author committer = (¬ Contains author 10) × (¬ Contains committer 10)

-- one of them has more
abbrev pub BlamesLines : List ℕ → List ℕ → NodeFault → Type 0
BlamesLines author committer e = (e ≡ Store (store.BadObject BadCommit)) × ¬ AreLines author committer

-- HEAD says nothing, or a file of the refs can't be read; or a fault
abbrev pub IsOfLook : FileMap → RefFault → Type 0
IsOfLook content (ref.Stale current) = ⊥
IsOfLook content (ref.Conflict other) = ⊥
IsOfLook content (ref.BadRefFile path) = (head_of content ≡ None) ⊎ IsBadRef content (string_bytes path)
IsOfLook content ref.HeadLoop = head_of content ≡ None
IsOfLook content (ref.Fault fault) = Unit {0}

-- a look at HEAD, or at the ref that it names, is refused so
abbrev pub BlamesLook : FileMap → NodeFault → Type 0
BlamesLook content (Ref fault) = IsOfLook content fault
BlamesLook content (Store fault) = IsStoreFault fault
BlamesLook content _ = ⊥

-- the branch that HEAD names conflicts with a ref
pub record HasHeadConflict (content : FileMap) (e : NodeFault) : Type 0 where
  pub name : List ℕ
  pub other : List ℕ
  pub head : head_of content ≡ Some (heads.Branch name)
  pub is : e ≡ Ref (ref.Conflict other)
  pub first : IsFirstInTheWay content name other
  pub there : is_some (refs content other) ≡ true

-- HEAD may not be moved
abbrev pub BlamesFreeHead : FileMap → NodeFault → Type 0
BlamesFreeHead content e = BlamesLook content e ⊎ HasHeadConflict content e

-- the first of the parents that is no good one is blamed
abbrev pub BlamesParents : FileMap → List ObjectId → NodeFault → Type 0
BlamesParents content [] e = ⊥
BlamesParents content (id ∷ ids) e = BlamesCommit content id e ⊎ (IsGoodParent content id × BlamesParents content ids e)

-- a commit may be made, as far as it can be seen before its objects are
pub record MayCommit (content : FileMap) (extra : List ObjectId) (author committer : List ℕ) : Type 0 where
  pub lines : AreLines author committer
  pub head : Head
  pub head_is : head_of content ≡ Some head
  pub free : IsFreeHead content head
  pub parents : AllByRecursion (IsGoodParent content) extra

-- each tree of the index fits, and this is the name of the root's
pub record HasRoot (m : IndexMap) (tree : ObjectId) : Type 0 where
  pub trees : List (List Entry)
  pub root : List Entry
  pub listed : AreIndexTrees m trees root
  pub fits : AllFit trees
  pub is : tree ≡ object_name kinds.Tree (spelling root)

-- a commit may be made: nothing refuses it, and its objects neither
pub record MayMake (content : FileMap) (extra : List ObjectId) (author committer message : List ℕ) : Type 0 where
  pub may : MayCommit content extra author committer
  pub map : IndexMap
  pub spelled : SpellsIndex content map
  pub tree : ObjectId
  pub root : HasRoot map tree
  pub legal : IsObject kinds.Commit (made_body tree (parents_of_commit content extra) author committer message)

-- the objects of a commit are refused for a tree of the index that is too large, or for the commit's own body; or a file of
-- one is damaged
abbrev pub BlamesStored : Type 0 → FileMap → IndexMap → List ObjectId → (author committer message : List ℕ) → StoreFault → Type 0
BlamesStored honest content m parents author committer message (store.BadObject fault) =
    ((fault ≡ TooLarge) × HasTooLarge m) ⊎ ((tree : ObjectId) × HasRoot m tree × BodyFault kinds.Commit (made_body tree parents author committer message) fault)
BlamesStored honest content m parents author committer message (store.Absent id) = ⊥
BlamesStored honest content m parents author committer message (store.Damaged id) = honest → IsDamaged content id
BlamesStored honest content m parents author committer message (store.Fault fault) = Unit {0}

-- the same of a node's faults
abbrev pub BlamesObjects : Type 0 → FileMap → IndexMap → List ObjectId → (author committer message : List ℕ) → NodeFault → Type 0
BlamesObjects honest content m parents author committer message (Store fault) = BlamesStored honest content m parents author committer message fault
BlamesObjects honest content m parents author committer message _ = ⊥

-- of the objects of a commit only trees were stored: the first of the index's, or all
abbrev pub StoresTrees : Type 0 → IndexMap → ObjectMap → ObjectMap → Type 0
StoresTrees honest m old new = IsBegun honest m old new ⊎ ((tree : ObjectId) × IsWritten honest m old new tree)

-- what refuses a commit, in its order
pub data BlamesMaking (content : FileMap) (extra : List ObjectId) (author committer message : List ℕ) (e : NodeFault) : Type 0 where
  of_lines : BlamesLines author committer e → BlamesMaking content extra author committer message e
  of_look : BlamesLook content e → BlamesMaking content extra author committer message e
  of_conflict : AreLines author committer → HasHeadConflict content e → BlamesMaking content extra author committer message e
  of_parents : (head : Head) → AreLines author committer → head_of content ≡ Some head → IsFreeHead content head → BlamesParents content extra e → BlamesMaking content extra author committer message e
  of_index : BlamesIndex content e → BlamesMaking content extra author committer message e
  of_objects : (m : IndexMap) → MayCommit content extra author committer → SpellsIndex content m → BlamesObjects (Unit {0}) content m (parents_of_commit content extra) author committer message e
      → BlamesMaking content extra author committer message e

-- a commit that nothing refuses was cut: some of its objects were stored, and HEAD was not moved
pub record IsCut (old : FileMap) (extra : List ObjectId) (author committer message : List ℕ) (new : FileMap) : Type 0 where
  pub may : MayCommit old extra author committer
  pub map : IndexMap
  pub spelled : SpellsIndex old map
  pub tree : ObjectId
  pub root : HasRoot map tree
  pub legal : IsObject kinds.Commit (made_body tree (parents_of_commit old extra) author committer message)
  pub after : ObjectMap
  pub some : StoresTrees (Unit {0}) map (objects old) after ⊎ ((id : ObjectId) × WritesCommit (Unit {0}) map (parents_of_commit old extra) author committer message (objects old) after id)
  pub is : shown new ≡ with_objects_shown (shown old) after

-- what a commit leaves that ended early: all as it was, or a cut
abbrev pub LeftByCommit : FileMap → List ObjectId → (author committer message : List ℕ) → FileMap → Type 0
LeftByCommit old extra author committer message new = (new ≡ old) ⊎ IsCut old extra author committer message new

-- Why a commit was not made, and what that leaves: it is refused in its order, or the node was down; all is as it was, or some of its
-- objects were stored, and no other file was written.
pub record EndsCommit (was_up : Bool) (old : FileMap) (extra : List ObjectId) (author committer message : List ℕ) (new : FileMap) (e : NodeFault) : Type 0 where
  pub because : ((e ≡ Down) × (was_up ≡ false)) ⊎ BlamesMaking old extra author committer message e
  pub left : LeftByCommit old extra author committer message new
  pub outside : SameOutside (codes "objects/") old new

-- ---- with what it says as one value

abbrev pub MayMakeSaid : FileMap → List ObjectId → Words → Type 0
MayMakeSaid content extra words = MayMake content extra words.author.now words.committer.now words.message.now

abbrev pub WritesSaid : Type 0 → IndexMap → List ObjectId → Words → ObjectMap → ObjectMap → ObjectId → Type 0
WritesSaid honest m parents words old new id = WritesCommit honest m parents words.author.now words.committer.now words.message.now old new id

-- it ended early, and nothing but files of objects was written
pub record LeavesSaid (old : FileMap) (extra : List ObjectId) (words : Words) (new : FileMap) : Type 0 where
  pub left : LeftByCommit old extra words.author.now words.committer.now words.message.now new
  pub outside : SameOutside (codes "objects/") old new

-- ---- HEAD

-- HEAD's branch is not set for what stands in its way or for its own file, and a detached HEAD for a fault alone
abbrev pub BlamesMoving : FileMap → Head → NodeFault → Type 0
BlamesMoving content (heads.Branch name) e = BlamesPut content name e
BlamesMoving content (heads.Id id) e = IsOfMemory e
