-- How the index differs from a tree, and the work tree from the index.
use Rattle.std.specs.Prelude.{◌≡◌, ◌≢◌, ◌⊎◌, ◌↔◌, ℕ, List, Option, Some, None, IsSome, Contains}
use Rattle.std.specs.Cmp.Lexicographic.{slice_cmp}
use Rattle.std.specs.FinMap.{get}
use Rattle.std.specs.List.Sorted.{IsStrictlySortedBy}
use Rattle.std.specs.Ordering.{nat_cmp}
use Rattle.vc_files.specs.FileMap.{FileMap}
use Rattle.vc_object.specs.ObjectMap.{ObjectMap}
use Rattle.vc_object.specs.declared.id.ObjectId.{ObjectId}
use Rattle.vc_object.specs.declared.mode.Mode.TheVariants as modes
use Rattle.vc_index.specs.IndexMap.{IndexMap}
use Rattle.vc_index.specs.declared.entry.IndexEntry.{IndexEntry}
use Rattle.vc_checkout.specs.Heads.{IsIndexOfHead}
use Rattle.vc_work_tree.specs.Paths.{blob_name}
use Rattle.vc_checkout.specs.declared.change.IndexChange.{IndexChange}
use Rattle.vc_checkout.specs.declared.change.IndexChange.TheVariants as of_index
use Rattle.vc_checkout.specs.declared.change.WorkChange.{WorkChange}
use Rattle.vc_checkout.specs.declared.change.WorkChange.TheVariants as of_work
use Rattle.vc_checkout.specs.declared.change.Change.{Change}

-- how what the index has at a path differs from what the tree has there
abbrev pub IsIndexChange : Option IndexEntry → Option IndexEntry → IndexChange → Type 0
IsIndexChange tree index of_index.Same = tree ≡ index
IsIndexChange tree index of_index.Added = (tree ≡ None) × IsSome index
IsIndexChange tree index of_index.Removed = IsSome tree × (index ≡ None)
IsIndexChange tree index of_index.Changed = IsSome tree × IsSome index × (tree ≢ index)

-- how the file at a path differs from what the index has there: a commit of another repository is not compared
abbrev pub IsWorkChange : Option IndexEntry → Option (List ℕ) → WorkChange → Type 0
IsWorkChange None file of_work.Same = file ≡ None
IsWorkChange None file of_work.Untracked = IsSome file
IsWorkChange None file _ = ⊥
IsWorkChange (Some entry) file of_work.Same = (entry.mode ≡ modes.Commit) ⊎ ((bytes : List ℕ) × (file ≡ Some bytes) × (blob_name bytes ≡ entry.id))
IsWorkChange (Some entry) file of_work.Gone = (entry.mode ≢ modes.Commit) × (file ≡ None)
IsWorkChange (Some entry) file of_work.Changed = (entry.mode ≢ modes.Commit) × ((bytes : List ℕ) × (file ≡ Some bytes) × (blob_name bytes ≢ entry.id))
IsWorkChange (Some entry) file of_work.Untracked = ⊥

-- something differs at the path, in these two ways
pub record Differs (tree index : IndexMap) (work : FileMap) (path : List ℕ) (staged : IndexChange) (unstaged : WorkChange) : Type 0 where
  pub staged_so : IsIndexChange (get tree path) (get index path) staged
  pub unstaged_so : IsWorkChange (get index path) (get work path) unstaged
  pub some : (staged ≢ of_index.Same) ⊎ (unstaged ≢ of_work.Same)

-- a path and its two changes
abbrev pub Seen : Type 0
Seen = List ℕ × IndexChange × WorkChange

-- a change as a path and its two changes
abbrev pub seen : Change → Seen
seen change = (change.path.items, change.index, change.work)

-- the changes are those of the paths at which something differs, in the order of the paths
pub record IsStatus (tree index : IndexMap) (work : FileMap) (changes : List Seen) : Type 0 where
  pub sorted : IsStrictlySortedBy (λ (x y : Seen). slice_cmp nat_cmp x.0 y.0) changes
  pub exact : (path : List ℕ) (staged : IndexChange) (unstaged : WorkChange) → Contains changes (path, staged, unstaged) ↔ Differs tree index work path staged unstaged

-- the same of the tree of this id, or of none
abbrev pub IsStatusOf : ObjectMap → Option ObjectId → IndexMap → FileMap → List Seen → Type 0
IsStatusOf objects tree index work changes = (head : IndexMap) × IsIndexOfHead objects tree head × IsStatus head index work changes

-- what is told of one path: how it differs, or that it does not
abbrev pub IsChangeAt : IndexMap → IndexMap → FileMap → List ℕ → Option Change → Type 0
IsChangeAt tree index work path None = (staged : IndexChange) (unstaged : WorkChange) → Differs tree index work path staged unstaged → ⊥
IsChangeAt tree index work path (Some change) = (change.path.items ≡ path) × Differs tree index work path change.index change.work
