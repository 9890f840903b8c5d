-- What a checkout brings, what it leaves, and why it is refused.
use Rattle.std.specs.Prelude.{◌≡◌, ◌≢◌, ◌⊎◌, ℕ, Bool, List, [], ◌∷◌, ◌++◌, ⊤, Option, Some, None, Ok, Err, MatchOption, codes, true, false}
use Rattle.std.specs.FinMap.{insert}
use Rattle.hex.specs.Hex.{encode_lower}
use Rattle.vc_files.specs.FileMap.{FileMap}
use Rattle.vc_object.specs.Kind.{word}
use Rattle.vc_object.specs.ObjectMap.{ObjectMap}
use Rattle.vc_object.specs.declared.id.ObjectId.{ObjectId}
use Rattle.vc_object.specs.declared.kind.Kind.{Kind}
use Rattle.vc_object.specs.declared.kind.Kind.TheVariants as kinds
use Rattle.vc_object.specs.declared.mode.Mode.{Mode}
use Rattle.vc_refs.specs.RefFault.{BlamesHead, BlamesRef, IsGoodHead}
use Rattle.vc_refs.specs.RefMap.{is_ref}
use Rattle.vc_refs.specs.Refs.{IsBadRef, deciding_file, refs}
use Rattle.vc_refs.specs.declared.heads.Head.{Head}
use Rattle.vc_refs.specs.declared.heads.Head.TheVariants as heads
use Rattle.vc_object_map.specs.Store.{objects}
use Rattle.vc_index.specs.IndexMap.{IndexMap, IsIndex}
use Rattle.vc_index.specs.IndexText.{index_text}
use Rattle.vc_index.specs.Loading.{IsOfList}
use Rattle.vc_index.specs.TreeFiles.{IsFileOfTree}
use Rattle.vc_index.specs.TreeReading.{ListsAs, TreeFault, tree_fault}
use Rattle.vc_index.specs.declared.faults.IndexFault.{IndexFault}
use Rattle.vc_checkout.specs.Blobs.{BlamesBlobs, HasDueBlobs}
use Rattle.vc_work_tree.specs.Folders.{Folders}
use Rattle.vc_checkout.specs.CheckoutFault.{IsAgainst, IsOfCheckout}
use Rattle.vc_checkout.specs.Holding.{BlamesPath, HoldsDue}
use Rattle.vc_checkout.specs.Refusal.{IsClear, IsRefused}
use Rattle.vc_checkout.specs.Settling.{Settles}
use Rattle.vc_checkout.specs.Steps.{Brings, BringsPart, IsUnwritten}
use Rattle.vc_checkout.specs.WorkTree.{AreApart}
use Rattle.vc_checkout.specs.declared.faults.CheckoutFault.{CheckoutFault}
use Rattle.vc_work_folder.specs.Own.{meets_own}
use Rattle.vc_local.specs.Blames.{BlamesHead as BlamesNewHead, MayHead}
use Rattle.vc_local.specs.IndexFile.{BlamesIndex, SpellsIndex}
use Rattle.vc_local.specs.NodeFault.{of_index as node_fault}
use Rattle.vc_local.specs.Shown.{shown, with_head_shown, with_index_shown}
use Rattle.vc_local.specs.declared.fault.NodeFault.TheVariants.{BadPath}
use Rattle.vc_working.specs.Begun.{begun_in, with_note}
use Rattle.vc_working.specs.CloneWords.{branch_ref}
use Rattle.vc_cli.specs.Failure.{of_checkout, status_of}
use Rattle.vc_cli.specs.Revisions.{Denoted, IsOfRevision}
use Rattle.vc_cli.specs.declared.failure.Failure.{Failure}
use Rattle.vc_cli.specs.declared.failure.Failure.TheVariants.{Node, Refs, Fault}

-- the text of an id, peeled to this kind
abbrev pub peeled : ObjectId → Kind → List ℕ
peeled id kind = encode_lower id.0 ++ (codes "^{" ++ (word kind ++ 125 ∷ []))

-- the commit of an object, and the tree of that commit
pub record IsCommitTree (content : FileMap) (named commit root : ObjectId) : Type 0 where
  pub commit_is : Denoted content (peeled named kinds.Commit) (Ok commit)
  pub root_is : Denoted content (peeled commit kinds.Tree) (Ok root)

-- of a revision that is no branch's name: HEAD is its commit
pub record IsDetached (content : FileMap) (revision : List ℕ) (head : Head) (root : ObjectId) : Type 0 where
  pub named : ObjectId
  pub commit : ObjectId
  pub named_is : Denoted content revision (Ok named)
  pub tree : IsCommitTree content named commit root
  pub head_is : head ≡ heads.Id commit

-- of the name of a branch that has this value: HEAD is the branch, whatever else has the name
pub record IsOnBranch (content : FileMap) (revision : List ℕ) (head : Head) (root named : ObjectId) : Type 0 where
  pub commit : ObjectId
  pub tree : IsCommitTree content named commit root
  pub head_is : head ≡ heads.Branch (branch_ref revision)

-- a ref of this name could be read, in its own file or the packed one
abbrev pub IsReadable : FileMap → List ℕ → Type 0
IsReadable content name = is_ref name ≡ true → ¬ IsBadRef content (deciding_file content name)

-- the HEAD that a checkout of the revision leaves, and the tree that it brings
pub record IsTarget (content : FileMap) (revision : List ℕ) (head : Head) (root : ObjectId) : Type 0 where
  pub readable : IsReadable content (branch_ref revision)
  pub is : MatchOption (refs content (branch_ref revision)) (IsDetached content revision head root) (IsOnBranch content revision head root)

-- no file of the tree has the path of the store's own folder, of one above it, or one in it
pub record IsApart (objects : ObjectMap) (root : ObjectId) (own : List ℕ) : Type 0 where
  pub each : (path : List ℕ) (mode : Mode) (id : ObjectId) → IsFileOfTree objects root path mode id → meets_own own path ≡ false

-- the index and HEAD can be read
pub record IsStarted (content : FileMap) (index : IndexMap) : Type 0 where
  pub spelled : SpellsIndex content index
  pub readable : IsGoodHead content

-- all that is looked at before the blobs and the work tree: besides, the revision leads to this HEAD and to a tree that lists
-- these files, HEAD may be that, and the tree keeps away from the store's own folder
pub record MayBring (own revision : List ℕ) (content : FileMap) (index : IndexMap) (head : Head) (root : ObjectId) (tree : IndexMap) : Type 0 where
  pub started : IsStarted content index
  pub target : IsTarget content revision head root
  pub may : MayHead content head
  pub lists : ListsAs (objects content) root (Ok tree)
  pub apart : IsApart (objects content) root own

-- ---- what the work tree has before it

-- the files of the tree are not listed: for the first fault of it and of the trees below it, for the file of one that is
-- damaged, or for a failure
abbrev pub IsOfTreeList : FileMap → ObjectId → Failure → Type 0
IsOfTreeList content root (Node fault) = (cause : IndexFault) × (fault ≡ node_fault cause) × IsOfList (Unit {0}) content root cause × ((told : TreeFault) → tree_fault cause ≡ Some told → ListsAs (objects content) root (Err told))
IsOfTreeList content root _ = ⊥

-- a checkout to another tree was cut short, which lists these files
abbrev pub IsCut : FileMap → ObjectId → IndexMap → Type 0
IsCut content root cut = (other : ObjectId) × (begun_in content ≡ Some other) × (other ≢ root) × ListsAs (objects content) other (Ok cut)

-- none was, but for one to this tree, or to one that can't be listed now
abbrev pub IsWhole : FileMap → ObjectId → Type 0
IsWhole content root = (other : ObjectId) → begun_in content ≡ Some other → (other ≡ root) ⊎ ((e : Failure) × IsOfTreeList content other e × (status_of e ≢ 3))

-- The index that a checkout to the tree of this id starts from: that of the files, or, where a checkout to another tree was cut short, the
-- index of what the work tree has.
abbrev pub IsStart : Type 0 → FileMap → FileMap → ObjectId → IndexMap → Bool → IndexMap → Type 0
IsStart honest content work root index false start = (start ≡ index) × IsWhole content root
IsStart honest content work root index true start = (cut : IndexMap) × IsCut content root cut × (honest → AreApart work → Settles index cut work start)

-- the files where the index that it starts from is written, where that is another one
abbrev pub with_start : FileMap → Bool → IndexMap → FileMap
with_start content false start = content
with_start content true start = insert content (codes "index") (index_text start)

-- and where the tree is noted, before the work tree is written
abbrev pub noted : FileMap → Bool → IndexMap → ObjectId → FileMap
noted content is_cut start root = with_note (with_start content is_cut start) root

-- The work tree can hold all that is due, each blob that is due is there, and nothing is against the checkout.
pub record MayWrite (honest : Type 0) (can_hold : List ℕ → Bool) (content work : FileMap) (start tree : IndexMap) : Type 0 where
  pub holds : HoldsDue can_hold start tree
  pub blobs : HasDueBlobs (objects content) start tree
  pub clear : honest → (path : List ℕ) → IsClear start tree work path

-- ---- what it leaves

-- Nothing was against the checkout. The work tree has the files and the folders that one leaves, the index is the tree's, HEAD is the
-- target, and no checkout is noted.
pub record ChecksOut {W : Type 0} (content : W → FileMap) (held : W → Folders) (can_hold : W → List ℕ → Bool) (own revision : List ℕ) (old new : FileMap) (was now : W) : Type 0 where
  pub index : IndexMap
  pub head : Head
  pub root : ObjectId
  pub tree : IndexMap
  pub before : MayBring own revision old index head root tree
  pub is_cut : Bool
  pub start : IndexMap
  pub starts : IsStart (Unit {0}) old (content was) root index is_cut start
  pub may : MayWrite (Unit {0}) (can_hold was) old (content was) start tree
  pub brought : Brings content held (objects old) start tree was now
  pub sound : IsIndex tree
  pub shows : shown new ≡ with_head_shown (with_index_shown (shown old) (index_text tree)) head
  pub ended : begun_in new ≡ None

-- what a fault leaves before the work tree is brought whole: it is as it was, and the index at most says what it has; or the tree is noted
abbrev pub StopsHalfway : {W : Type 0} → (W → FileMap) → (W → Folders) → (W → Option ℕ) → (old new : FileMap) → Bool → (start : IndexMap) → (root : ObjectId) → (was now : W) → Type 0 → Type 0
StopsHalfway content held left old new is_cut start root was now IsPart =
    (IsUnwritten content held left was now × ((new ≡ old) ⊎ (new ≡ with_start old is_cut start)))
    ⊎ ((new ≡ noted old is_cut start root) × (begun_in new ≡ Some root) × IsPart)

-- the index is written or it isn't, and HEAD is not moved; or all is done, and the note is still there
abbrev pub IsBroughtTo : (old new : FileMap) → Bool → (start : IndexMap) → (root : ObjectId) → (tree : IndexMap) → Head → Type 0
IsBroughtTo old new is_cut start root tree head =
    (new ≡ noted old is_cut start root)
    ⊎ ((new ≡ insert (noted old is_cut start root) (codes "index") (index_text tree))
    ⊎ (shown new ≡ with_head_shown (with_index_shown (shown old) (index_text tree)) head))

-- What a fault leaves where nothing was against the checkout. The work tree is as it was, or the tree is noted, and it was brought in part or
-- whole.
pub record LeavesNoted {W : Type 0} (honest : Type 0) (content : W → FileMap) (held : W → Folders) (left : W → Option ℕ) (can_hold : W → List ℕ → Bool) (own revision : List ℕ) (old new : FileMap) (was now : W) : Type 0 where
  pub index : IndexMap
  pub head : Head
  pub root : ObjectId
  pub tree : IndexMap
  pub before : MayBring own revision old index head root tree
  pub is_cut : Bool
  pub start : IndexMap
  pub starts : IsStart honest old (content was) root index is_cut start
  pub may : MayWrite honest (can_hold was) old (content was) start tree
  pub stage :
      StopsHalfway content held left old new is_cut start root was now (honest → BringsPart content held left can_hold (objects old) start tree was now)
      ⊎ ((honest → Brings content held (objects old) start tree was now) × (begun_in new ≡ Some root) × IsBroughtTo old new is_cut start root tree head)

-- the file of the index spells none
abbrev pub IsOfIndex : FileMap → Failure → Type 0
IsOfIndex content (Node fault) = BlamesIndex content fault
IsOfIndex content _ = ⊥

-- the file of HEAD says nothing that HEAD can be
abbrev pub IsOfHead : FileMap → Failure → Type 0
IsOfHead content (Refs fault) = BlamesHead content fault
IsOfHead content _ = ⊥

-- the file of the ref of this name is bad, or a fault
abbrev pub IsOfRef : FileMap → List ℕ → Failure → Type 0
IsOfRef content name (Refs fault) = BlamesRef content name fault
IsOfRef content name (Fault fault) = ⊤
IsOfRef content name _ = ⊥

-- the object is no commit, or its tree can't be named
abbrev pub IsOfCommit : FileMap → ObjectId → Failure → Type 0
IsOfCommit content named e =
    IsOfRevision content (peeled named kinds.Commit) e
    ⊎ ((commit : ObjectId) × Denoted content (peeled named kinds.Commit) (Ok commit) × IsOfRevision content (peeled commit kinds.Tree) e)

-- the revision has no value, or what it names is no commit
abbrev pub IsOfDetached : FileMap → List ℕ → Failure → Type 0
IsOfDetached content revision e = IsOfRevision content revision e ⊎ ((named : ObjectId) × Denoted content revision (Ok named) × IsOfCommit content named e)

-- the file of the branch of that name is bad; or what the branch has is no commit; or, without a branch, what the revision names
abbrev pub IsOfTarget : FileMap → List ℕ → Failure → Type 0
IsOfTarget content revision e =
    IsOfRef content (branch_ref revision) e
    ⊎ (IsReadable content (branch_ref revision) × MatchOption (refs content (branch_ref revision)) (IsOfDetached content revision e) (λ named. IsOfCommit content named e))

-- HEAD may not be that commit: something is absent that it reaches (40), or there is no commit along its parent links (41)
abbrev pub IsOfNewHead : FileMap → Head → Failure → Type 0
IsOfNewHead content head (Node fault) = BlamesNewHead content head fault
IsOfNewHead content head _ = ⊥

-- a tree that was listed has a file in the store's own folder, or in the place of a folder above it
pub record HasOwn (objects : ObjectMap) (root : ObjectId) (own : List ℕ) : Type 0 where
  pub tree : IndexMap
  pub lists : ListsAs objects root (Ok tree)
  pub path : List ℕ
  pub mode : Mode
  pub id : ObjectId
  pub is : IsFileOfTree objects root path mode id
  pub meets : meets_own own path ≡ true

-- such a file is refused with 60
abbrev pub IsOfOwn : FileMap → ObjectId → List ℕ → Failure → Type 0
IsOfOwn content root own (Node fault) = (fault ≡ BadPath) × HasOwn (objects content) root own
IsOfOwn content root own _ = ⊥

-- the work tree can't hold what is due at a path, the first one
abbrev pub IsOfPath : (List ℕ → Bool) → IndexMap → IndexMap → Failure → Type 0
IsOfPath can_hold index tree e = (against : CheckoutFault) × (e ≡ of_checkout against) × BlamesPath can_hold index tree against

-- a file or a link that is due has no blob: it is absent (40), of another kind (63), or its file is damaged (12), as at the first
-- path
abbrev pub IsOfBlobs : FileMap → IndexMap → IndexMap → Failure → Type 0
IsOfBlobs content index tree e = (cause : IndexFault) × (e ≡ Node (node_fault cause)) × BlamesBlobs content index tree cause

-- what is in the work tree is against the tree: a path that is no text (72), a change (70), or a file in the way (71), as the
-- first cause at the first path
abbrev pub IsOfWork : Type 0 → FileMap → IndexMap → IndexMap → FileMap → Failure → Type 0
IsOfWork honest content index tree work e =
    (against : CheckoutFault) × (e ≡ of_checkout against) × IsAgainst against × HasDueBlobs (objects content) index tree × (honest → IsRefused index tree work against)

-- Why nothing is brought, by what is looked at before the work tree. What comes first was good where a later thing is blamed.
pub data RefusesLook (own revision : List ℕ) (content : FileMap) (e : Failure) : Type 0 where
  of_fault : status_of e ≡ 3 → RefusesLook own revision content e
  of_index : IsOfIndex content e → RefusesLook own revision content e
  of_head : (index : IndexMap) → SpellsIndex content index → IsOfHead content e → RefusesLook own revision content e
  of_target : (index : IndexMap) → IsStarted content index → IsOfTarget content revision e → RefusesLook own revision content e
  of_new_head : (index : IndexMap) (head : Head) (root : ObjectId) → IsStarted content index → IsTarget content revision head root → IsOfNewHead content head e → RefusesLook own revision content e
  of_tree : (index : IndexMap) (head : Head) (root : ObjectId) → IsStarted content index → IsTarget content revision head root → MayHead content head → IsOfTreeList content root e ⊎ IsOfOwn content root own e
      → RefusesLook own revision content e

-- why the work tree may not be brought to a tree from the index that the checkout starts from
abbrev pub IsOfStart : Type 0 → (List ℕ → Bool) → FileMap → FileMap → ObjectId → IndexMap → IndexMap → Failure → Type 0
IsOfStart honest can_hold content work root index tree e =
    (is_cut : Bool) × (start : IndexMap) × IsStart honest content work root index is_cut start × ((cause : CheckoutFault) × (e ≡ of_checkout cause) × IsOfCheckout honest can_hold work content start tree cause)

-- The same of the whole: behind the look the paths that are due are looked at, then their blobs, and then the work tree.
pub data RefusesCheckout (honest : Type 0) (can_hold : List ℕ → Bool) (own revision : List ℕ) (content work : FileMap) (e : Failure) : Type 0 where
  of_fault : status_of e ≡ 3 → RefusesCheckout honest can_hold own revision content work e
  of_look : RefusesLook own revision content e → RefusesCheckout honest can_hold own revision content work e
  of_path : (index : IndexMap) (head : Head) (root : ObjectId) (tree : IndexMap) (is_cut : Bool) (start : IndexMap) → MayBring own revision content index head root tree → IsStart honest content work root index is_cut start
      → IsOfPath can_hold start tree e → RefusesCheckout honest can_hold own revision content work e
  of_work : (index : IndexMap) (head : Head) (root : ObjectId) (tree : IndexMap) (is_cut : Bool) (start : IndexMap) → MayBring own revision content index head root tree → IsStart honest content work root index is_cut start
      → HoldsDue can_hold start tree → IsOfBlobs content start tree e ⊎ IsOfWork honest content start tree work e → RefusesCheckout honest can_hold own revision content work e

-- what stands after an error: files and work tree are as they were, and no write was made to it; or, after a fault, what such a one leaves
abbrev pub LeavesOrFails : {W : Type 0} → Type 0 → (W → FileMap) → (W → Folders) → (W → Option ℕ) → (W → List ℕ → Bool) → (own revision : List ℕ) → (old new : FileMap) → (was now : W) → Failure → Type 0
LeavesOrFails honest content held left can_hold own revision old new was now e =
    (IsUnwritten content held left was now × (new ≡ old)) ⊎ ((status_of e ≡ 3) × LeavesNoted honest content held left can_hold own revision old new was now)
