-- A bad file that a commit tells is one that it had to read.
use Rattle.std.proofs.Common.{◌≡◌, inl, inr, ℕ, Bool, true, false, ◌<◌, List, Some, get_or, length, refl, ap, ◌∙◌, subst}
use Rattle.std.specs.Prelude.{codes, string_bytes}
use Rattle.std.proofs.lemmas.List.Elements.{Contains-get_or}
use Rattle.vc_files.specs.FileMap.{FileMap, SameOutside}
use Rattle.vc_index.specs.IndexMap.{IndexMap}
use Rattle.vc_index.specs.WrittenTrees.{IsOfWrite}
use Rattle.vc_index.specs.declared.faults.IndexFault.{IndexFault}
use Rattle.vc_index.specs.declared.faults.IndexFault.TheVariants as index
use Rattle.vc_object.specs.Object.{object_name}
use Rattle.vc_object.specs.ObjectMap.{links_in}
use Rattle.vc_object.specs.declared.id.ObjectId.{ObjectId}
use Rattle.vc_object.specs.declared.kind.Kind.TheVariants as kinds
use Rattle.vc_refs.specs.Head.{head_of}
use Rattle.vc_refs.proofs.LayeredLemmas.{decides-loose, decides-packed}
use Rattle.vc_refs.specs.RefFault.{BlamesHead, BlamesHeadValue}
use Rattle.vc_refs.specs.Refs.{deciding_file, is_taken}
use Rattle.vc_refs.specs.declared.faults.RefFault.{RefFault}
use Rattle.vc_refs.specs.declared.faults.RefFault.TheVariants as ref
use Rattle.vc_refs.specs.declared.heads.Head.{Head}
use Rattle.vc_refs.specs.declared.heads.Head.TheVariants as heads
use Rattle.vc_object_map.specs.Store.{objects}
use Rattle.vc_object_map.specs.StoreFault.{IsOfPut}
use Rattle.vc_object_map.specs.declared.faults.StoreFault.{StoreFault}
use Rattle.vc_object_map.specs.declared.faults.StoreFault.TheVariants as store
use Rattle.vc_local.specs.Commit.{IsFreeHead, made_body, parents_of_commit}
use Rattle.vc_local.specs.IndexFile.{SpellsIndex}
use Rattle.vc_local.specs.Making.{HasRoot}
use Rattle.vc_local.specs.NodeFault.{of_index}
use Rattle.vc_local.specs.Reads.{IsAtBranch, IsAtHead, IsMade, IsOfCommit, IsReached, IsItsFile, IsReachedByOne, NoneRead, TellsRead}
use Rattle.vc_local.specs.declared.fault.NodeFault.{NodeFault}
use Rattle.vc_local.specs.declared.fault.NodeFault.TheVariants.{Store, Ref, Missing, NotACommit, BadPath, PathConflict, BadIndex, WrongEntry, Down}
use Rattle.vc_local.proofs.CommitLemmas.{only_root}
use Rattle.vc_local.proofs.RefusalLemmas.{held_before}

-- what is one of these files is one of those
module _ (Objects Wider : ObjectId → Type 0) (Paths Further : List ℕ → Type 0) (objects_too : (id : ObjectId) → Objects id → Wider id) (paths_too : (path : List ℕ) → Paths path → Further path) where
  pub read_too : (e : NodeFault) → TellsRead Objects Paths e → TellsRead Wider Further e
  read_too (Store (store.BadObject f)) read = tt
  read_too (Store (store.Absent id)) read = tt
  read_too (Store (store.Damaged id)) read = objects_too id read
  read_too (Store (store.Fault f)) read = tt
  read_too (Ref (ref.Stale current)) read = tt
  read_too (Ref (ref.Conflict other)) read = tt
  read_too (Ref (ref.BadRefFile path)) read = paths_too (string_bytes path) read
  read_too (Ref ref.HeadLoop) read = tt
  read_too (Ref (ref.Fault f)) read = tt
  read_too (Missing id) read = tt
  read_too (NotACommit id) read = tt
  read_too BadPath read = tt
  read_too PathConflict read = tt
  read_too (BadIndex place) read = tt
  read_too (WrongEntry at) read = tt
  read_too Down read = tt

-- ---- HEAD

pub head_read : (content : FileMap) (e : RefFault) → BlamesHead content e → TellsRead NoneRead (IsAtHead content) (Ref e)
head_read content (ref.Stale current) blames = tt
head_read content (ref.Conflict other) blames = tt
head_read content (ref.BadRefFile path) blames = inl blames.0
head_read content ref.HeadLoop blames = tt
head_read content (ref.Fault f) blames = tt

-- the file that decides for a ref
pub its_file : (content : FileMap) (name path : List ℕ) → path ≡ deciding_file content name → IsItsFile name path
its_file content name path is = by (is_taken content name) refl
  where
    by : (b : Bool) → is_taken content name ≡ b → IsItsFile name path
    by true taken = inl (is ∙ decides-loose content name taken)
    by false free = inr (is ∙ decides-packed content name free)

pub value_read : (content : FileMap) (e : RefFault) → BlamesHeadValue content e → TellsRead NoneRead (IsAtHead content) (Ref e)
value_read content (ref.Stale current) blames = tt
value_read content (ref.Conflict other) blames = tt
value_read content (ref.BadRefFile path) blames = elim blames [ inl head ↦ inl head.0 | inr named ↦ inr (heads.Branch named.0, named.1, inl (its_file content named.0 (string_bytes path) named.2)) ]
value_read content ref.HeadLoop blames = tt
value_read content (ref.Fault f) blames = tt

-- what is at a branch, after objects alone were stored, was so before: nothing is in its way
module _ (old new : FileMap) (outside : SameOutside (codes "objects/") old new) where
  at_branch_before : (head : Head) → IsFreeHead old head → (path : List ℕ) → IsAtBranch new head path → IsAtBranch old head path
  at_branch_before (heads.Branch name) free path (inl own) = inl own
  at_branch_before (heads.Branch name) free path (inr way) = absurd (free.none path (record { held = held_before old new outside path way.here.held; conflict = way.here.conflict }))
  at_branch_before (heads.Id id) free path never = never

  pub moving_read : (head : Head) → head_of old ≡ Some head → IsFreeHead old head → (e : NodeFault) → TellsRead NoneRead (IsAtBranch new head) e → TellsRead NoneRead (IsAtHead old) e
  moving_read head is free = read_too NoneRead NoneRead (IsAtBranch new head) (IsAtHead old) (λ id never. never) (λ path at. inr (head, is, at_branch_before head free path at))

-- ---- objects

-- what one of the parents reaches
pub parent_of_many : (content : FileMap) (ids : List ObjectId) (i : ℕ) (d : ObjectId) → i < length ids → (e : NodeFault) → TellsRead (IsReached content (get_or ids i d)) NoneRead e → TellsRead (IsReachedByOne content ids) NoneRead e
parent_of_many content ids i d less = read_too (IsReached content (get_or ids i d)) (IsReachedByOne content ids) NoneRead NoneRead
    (λ id r. record { root = get_or ids i d; is_root = Contains-get_or ids i d less; reaches = only_root (links_in (objects content)) (get_or ids i d) id r })
    (λ path never. never)

module _ (m : IndexMap) (parents : List ObjectId) (author committer message : List ℕ) where
  -- a tree of the index
  pub trees_read : (Damage : ObjectId → Type 0) (e : IndexFault) → IsOfWrite m Damage e → TellsRead (IsMade m parents author committer message) NoneRead (of_index e)
  trees_read Damage index.BadPath of = tt
  trees_read Damage index.PathConflict of = tt
  trees_read Damage (index.BadIndex place) of = tt
  trees_read Damage (index.WrongEntry at) of = tt
  trees_read Damage (index.Missing id) of = tt
  trees_read Damage (index.Store (store.BadObject f)) of = tt
  trees_read Damage (index.Store (store.Absent id)) of = tt
  trees_read Damage (index.Store (store.Damaged id)) of = inl of.0
  trees_read Damage (index.Store (store.Fault f)) of = tt

  -- the commit
  pub body_read : (tree : ObjectId) → HasRoot m tree → (body : List ℕ) → body ≡ made_body tree parents author committer message → (e : StoreFault) → IsOfPut kinds.Commit body e → TellsRead (IsMade m parents author committer message) NoneRead (Store e)
  body_read tree root body is (store.BadObject f) of = tt
  body_read tree root body is (store.Absent id) of = tt
  body_read tree root body is (store.Damaged id) of = inr (tree, root, of.1 ∙ ap (object_name kinds.Commit) is)
  body_read tree root body is (store.Fault f) of = tt

-- ---- the whole commit

module _ (content : FileMap) (extra : List ObjectId) (author committer message : List ℕ) where
  pub nothing_read : (e : NodeFault) → TellsRead NoneRead NoneRead e → TellsRead (IsOfCommit content extra author committer message) (IsAtHead content) e
  nothing_read = read_too NoneRead (IsOfCommit content extra author committer message) NoneRead (IsAtHead content) (λ id never. absurd never) (λ path never. absurd never)

  -- what is told of HEAD
  pub at_head_read : (e : NodeFault) → TellsRead NoneRead (IsAtHead content) e → TellsRead (IsOfCommit content extra author committer message) (IsAtHead content) e
  at_head_read = read_too NoneRead (IsOfCommit content extra author committer message) (IsAtHead content) (IsAtHead content) (λ id never. absurd never) (λ path at. at)

  -- of the parents
  pub reached_read : (e : NodeFault) → TellsRead (IsReachedByOne content extra) NoneRead e → TellsRead (IsOfCommit content extra author committer message) (IsAtHead content) e
  reached_read = read_too (IsReachedByOne content extra) (IsOfCommit content extra author committer message) NoneRead (IsAtHead content) (λ id reached. inl reached) (λ path never. absurd never)

  -- and of what is made
  pub made_read : (m : IndexMap) → SpellsIndex content m → (parents : List ObjectId) → parents ≡ parents_of_commit content extra → (e : NodeFault) → TellsRead (IsMade m parents author committer message) NoneRead e
      → TellsRead (IsOfCommit content extra author committer message) (IsAtHead content) e
  made_read m spelled parents same = read_too (IsMade m parents author committer message) (IsOfCommit content extra author committer message) NoneRead (IsAtHead content)
      (λ id made. inr (m, spelled, subst (λ (ps : List ObjectId). IsMade m ps author committer message id) same made))
      (λ path never. absurd never)
