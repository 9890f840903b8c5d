-- What `status` prints, and why it prints nothing. A line is how the index differs from HEAD's tree, how the file differs from the index, a space, the
-- path and LF, in the letters of `git status --porcelain`.
use Rattle.std.specs.Prelude.{◌≡◌, ◌⊎◌, ℕ, List, [], ◌∷◌, ◌++◌, Option, Some, None, Ok, MatchOption, if◌then◌else◌}
use Rattle.std.specs.List.{flat_map}
use Rattle.std.specs.Io.KnownBytes.{Appends}
use Rattle.vc_files.specs.FileMap.{FileMap}
use Rattle.vc_object.specs.declared.id.ObjectId.{ObjectId}
use Rattle.vc_object.specs.declared.kind.Kind.TheVariants as kinds
use Rattle.vc_refs.specs.Head.{head_of, head_value}
use Rattle.vc_refs.specs.RefFault.{BlamesHeadValue, IsGoodHeadValue}
use Rattle.vc_refs.specs.Refs.{refs}
use Rattle.vc_object_map.specs.Store.{objects}
use Rattle.vc_index.specs.IndexMap.{IndexMap}
use Rattle.vc_checkout.specs.Heads.{IsIndexOfHead}
use Rattle.vc_checkout.specs.Status.{IsStatus, Seen}
use Rattle.vc_checkout.specs.declared.change.IndexChange.{IndexChange}
use Rattle.vc_checkout.specs.declared.change.IndexChange.TheVariants.{Same, Added, Removed, Changed}
use Rattle.vc_checkout.specs.declared.change.WorkChange.{WorkChange}
use Rattle.vc_checkout.specs.declared.change.WorkChange.TheVariants as work
use Rattle.vc_work_folder.specs.Own.{is_own}
use Rattle.vc_local.specs.IndexFile.{SpellsIndex}
use Rattle.vc_working.specs.Checkout.{IsOfIndex, IsOfTreeList, peeled}
use Rattle.vc_cli.specs.Failure.{status_of}
use Rattle.vc_cli.specs.Revisions.{Denoted, IsOfRevision}
use Rattle.vc_cli.specs.declared.failure.Failure.{Failure}
use Rattle.vc_cli.specs.declared.failure.Failure.TheVariants.{Refs}

-- ` `, `A`, `D`, `M`
abbrev pub index_letter : IndexChange → ℕ
index_letter Same = 32
index_letter Added = 65
index_letter Removed = 68
index_letter Changed = 77

abbrev pub line : ℕ → ℕ → List ℕ → List ℕ
line staged unstaged path = staged ∷ unstaged ∷ 32 ∷ (path ++ 10 ∷ [])

-- how the index differs, at a path that the index lacks
abbrev pub lost_line : IndexChange → List ℕ → List ℕ
lost_line Same path = []
lost_line Added path = line 65 32 path
lost_line Removed path = line 68 32 path
lost_line Changed path = line 77 32 path

-- `??`; the store's own files are no part of the work tree
abbrev pub unknown_line : List ℕ → List ℕ → List ℕ
unknown_line own path = if is_own own path then [] else line 63 63 path

-- the lines of a change; a file that the index lacks has a line of its own
abbrev pub work_lines : List ℕ → List ℕ → IndexChange → WorkChange → List ℕ
work_lines own path staged work.Same = line (index_letter staged) 32 path
work_lines own path staged work.Gone = line (index_letter staged) 68 path
work_lines own path staged work.Changed = line (index_letter staged) 77 path
work_lines own path staged work.Untracked = lost_line staged path ++ unknown_line own path

abbrev pub change_lines : List ℕ → Seen → List ℕ
change_lines own (path, staged, unstaged) = work_lines own path staged unstaged

-- the tree of HEAD's commit, where HEAD can be read; none where HEAD has no value
pub record IsHeadTree (content : FileMap) (tree : Option ObjectId) : Type 0 where
  pub readable : IsGoodHeadValue content
  pub is : MatchOption (head_value (refs content) (head_of content)) (tree ≡ None) (λ commit. (root : ObjectId) × (tree ≡ Some root) × Denoted content (peeled commit kinds.Tree) (Ok root))

-- this is told of the lines of all paths at which something differs, in the order of the paths
pub record TellsStatus (content work : FileMap) (own : List ℕ) (Told : List ℕ → Type 0) : Type 0 where
  pub index : IndexMap
  pub spelled : SpellsIndex content index
  pub tree : Option ObjectId
  pub tree_is : IsHeadTree content tree
  pub head : IndexMap
  pub head_is : IsIndexOfHead (objects content) tree head
  pub changes : List Seen
  pub exact : IsStatus head index work changes
  pub text : Told (flat_map (change_lines own) changes)

-- they are printed
abbrev pub PrintsStatus : (content work : FileMap) → (own : List ℕ) → (old new : Option (List ℕ)) → Type 0
PrintsStatus content work own old new = TellsStatus content work own (Appends old new)

-- HEAD's file or that of its branch is bad
abbrev pub IsOfHeadValue : FileMap → Failure → Type 0
IsOfHeadValue content (Refs fault) = BlamesHeadValue content fault
IsOfHeadValue content _ = ⊥

-- HEAD can't be read, or what it leads to has no tree
abbrev pub IsOfHeadTree : FileMap → Failure → Type 0
IsOfHeadTree content e =
    IsOfHeadValue content e
    ⊎ (IsGoodHeadValue content × (commit : ObjectId) × (head_value (refs content) (head_of content) ≡ Some commit) × IsOfRevision content (peeled commit kinds.Tree) e)

-- Why nothing is printed: the index, HEAD and its commit, and the tree are looked at in this order. Of what the tree's entries
-- name the trees alone are looked at: a file of the tree that is absent refuses nothing.
pub data RefusesStatus (content : FileMap) (e : Failure) : Type 0 where
  by_fault : status_of e ≡ 3 → RefusesStatus content e
  by_index : IsOfIndex content e → RefusesStatus content e
  by_head : (index : IndexMap) → SpellsIndex content index → IsOfHeadTree content e → RefusesStatus content e
  by_tree : (index : IndexMap) (root : ObjectId) → SpellsIndex content index → IsHeadTree content (Some root) → IsOfTreeList content root e → RefusesStatus content e
