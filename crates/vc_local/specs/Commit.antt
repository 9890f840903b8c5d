-- What a commit makes of an index, its parents and what it says, and what it leaves.
use Rattle.std.specs.Prelude.{◌≡◌, ℕ, List, [], ◌∷◌, ◌++◌, Some, option_to_list}
use Rattle.std.specs.List.{AllByRecursion}
use Rattle.vc_files.specs.FileMap.{FileMap}
use Rattle.vc_index.specs.IndexMap.{IndexMap}
use Rattle.vc_index.specs.WrittenTrees.{IsWritten}
use Rattle.vc_object.specs.Commit.{CommitText, commit_bytes}
use Rattle.vc_object.specs.Decoding.{stored_object}
use Rattle.vc_object.specs.Object.{object_name, IsObject}
use Rattle.vc_object.specs.ObjectMap.{ObjectMap}
use Rattle.vc_object.specs.declared.id.ObjectId.{ObjectId}
use Rattle.vc_object.specs.declared.kind.Kind.TheVariants as kinds
use Rattle.vc_refs.specs.Head.{head_of, head_value}
use Rattle.vc_refs.specs.RefMap.{with_ref}
use Rattle.vc_refs.specs.Refs.{refs}
use Rattle.vc_refs.specs.Obstacle.{IsFree}
use Rattle.vc_refs.specs.declared.heads.Head.{Head}
use Rattle.vc_refs.specs.declared.heads.Head.TheVariants as heads
use Rattle.vc_object_map.specs.Store.{objects, with_object}
use Rattle.vc_local.specs.GoodCommit.{IsGoodBeyondRefs}
use Rattle.vc_local.specs.IndexFile.{SpellsIndex}
use Rattle.vc_local.specs.Shown.{Shown, shown, with_objects_shown, with_refs_shown, with_head_shown}

-- a commit that may be a parent
abbrev pub IsGoodParent : FileMap → ObjectId → Type 0
IsGoodParent content id = IsGoodBeyondRefs content id

-- HEAD may be moved: where it names a branch, the branch may be set
abbrev pub IsFreeHead : FileMap → Head → Type 0
IsFreeHead content (heads.Branch name) = IsFree content name
IsFreeHead content (heads.Id id) = Unit {0}

-- a commit of a tree and parents: its rest is an empty line, the message and LF (git-commit-tree)
abbrev pub made_commit : ObjectId → List ObjectId → (author committer message : List ℕ) → CommitText
made_commit tree parents author committer message = record { tree = tree; parents = parents; author = author; committer = committer; rest = 10 ∷ (message ++ 10 ∷ []) }

abbrev pub made_body : ObjectId → List ObjectId → (author committer message : List ℕ) → List ℕ
made_body tree parents author committer message = commit_bytes (made_commit tree parents author committer message)

-- the trees of the index were written, and then the commit of the root's tree, which has the id
pub record WritesCommit (honest : Type 0) (m : IndexMap) (parents : List ObjectId) (author committer message : List ℕ) (old new : ObjectMap) (id : ObjectId) : Type 0 where
  pub tree : ObjectId
  pub between : ObjectMap
  pub trees : honest → IsWritten honest m old between tree
  pub legal : IsObject kinds.Commit (made_body tree parents author committer message)
  pub name : id ≡ object_name kinds.Commit (made_body tree parents author committer message)
  pub commit : honest → new ≡ with_object between id (stored_object kinds.Commit (made_body tree parents author committer message))

-- what is shown when HEAD's branch, or a detached HEAD, was moved to the id
abbrev pub moved : Head → ObjectId → Shown → Shown
moved (heads.Branch name) id s = with_refs_shown s (with_ref s.refs name id)
moved (heads.Id was) id s = with_head_shown s (heads.Id id)

-- the parents of a commit: HEAD's, if there is one, and then the extra ones
abbrev pub parents_of_commit : FileMap → List ObjectId → List ObjectId
parents_of_commit content extra = option_to_list (head_value (refs content) (head_of content)) ++ extra

-- the index was committed: the commit's objects are there, HEAD leads to it, and the rest is as before
pub record IsCommitted (old : FileMap) (extra : List ObjectId) (author committer message : List ℕ) (id : ObjectId) (new : FileMap) : Type 0 where
  pub head : Head
  pub head_is : head_of old ≡ Some head
  pub free : IsFreeHead old head
  pub map : IndexMap
  pub spelled : SpellsIndex old map
  pub parents : AllByRecursion (IsGoodParent old) extra
  pub after : ObjectMap
  pub writes : WritesCommit (Unit {0}) map (parents_of_commit old extra) author committer message (objects old) after id
  pub is : shown new ≡ moved head id (with_objects_shown (shown old) after)
