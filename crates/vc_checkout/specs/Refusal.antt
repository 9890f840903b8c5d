-- Why a work tree is not brought to the files of a tree.
use Rattle.std.specs.Prelude.{◌≡◌, ◌≢◌, ◌⊎◌, ⊤, ℕ, List, Option, Some, None, IsSome, IsUtf8}
use Rattle.std.specs.Cmp.Lexicographic.{slice_cmp}
use Rattle.std.specs.FinMap.{get}
use Rattle.std.specs.Ordering.{nat_cmp}
use Rattle.std.specs.declared.cmp.Ordering.TheVariants.{Less}
use Rattle.vc_files.specs.FileMap.{FileMap}
use Rattle.vc_object.specs.declared.id.ObjectId.{ObjectId}
use Rattle.vc_object.specs.declared.mode.Mode.TheVariants as modes
use Rattle.vc_index.specs.IndexMap.{IndexMap}
use Rattle.vc_index.specs.Path.{IsAbove}
use Rattle.vc_index.specs.declared.entry.IndexEntry.{IndexEntry}
use Rattle.vc_checkout.specs.WorkTree.{IsUnkept}
use Rattle.vc_work_tree.specs.Paths.{blob_name}
use Rattle.vc_checkout.specs.declared.faults.CheckoutFault.{CheckoutFault}
use Rattle.vc_checkout.specs.declared.faults.CheckoutFault.TheVariants.{LocalChange, InTheWay, NotText, BadPath, Index}

-- what the tree has at a path has to be written: the index has nothing there, or something else
abbrev pub IsDue : Option IndexEntry → Option IndexEntry → Type 0
IsDue old new = IsSome new × (old ≢ new)

-- a file that is due has a path that is no text
abbrev pub IsNotText : IndexMap → IndexMap → List ℕ → Type 0
IsNotText index tree path = IsDue (get index path) (get tree path) × ¬ (IsUtf8 path)

-- the name is not that of what stands there
abbrev pub IsOther : Option IndexEntry → ObjectId → Type 0
IsOther None name = ⊤
IsOther (Some entry) name = name ≢ entry.id

-- what the index has goes or changes, and the file is neither what the index has nor what the tree has. A commit of
-- another repository has no file
pub record HasLocalChange (old new : Option IndexEntry) (file : Option (List ℕ)) : Type 0 where
  pub entry : IndexEntry
  pub bytes : List ℕ
  pub known : old ≡ Some entry
  pub file_mode : entry.mode ≢ modes.Commit
  pub changes : old ≢ new
  pub there : file ≡ Some bytes
  pub not_old : blob_name bytes ≢ entry.id
  pub not_new : IsOther new (blob_name bytes)

-- the file that is to be written is not the one that is there
abbrev pub IsNotWanted : IndexEntry → Option (List ℕ) → Type 0
IsNotWanted entry file = (entry.mode ≡ modes.Commit) ⊎ ((bytes : List ℕ) × (file ≡ Some bytes) × (blob_name bytes ≢ entry.id))

-- one of these files of the work tree stands where the entry is to be written: at the path with another content, in a
-- folder's place above it, or below it
abbrev pub IsHindered : (List ℕ → Type 0) → FileMap → List ℕ → IndexEntry → Type 0
IsHindered IsOne work path entry =
    (other : List ℕ) × IsOne other × (((other ≡ path) × IsNotWanted entry (get work other)) ⊎ (IsAbove other path ⊎ IsAbove path other))

-- a file that the index doesn't keep stands in the way of what is due
abbrev pub IsInTheWay : IndexMap → IndexMap → FileMap → List ℕ → Type 0
IsInTheWay index tree work path =
    (entry : IndexEntry) × (get tree path ≡ Some entry) × (get index path ≢ get tree path) × IsHindered (IsUnkept index work) work path entry

-- nothing at the path is against a checkout
pub record IsClear (index tree : IndexMap) (work : FileMap) (path : List ℕ) : Type 0 where
  pub text : IsNotText index tree path → ⊥
  pub unchanged : HasLocalChange (get index path) (get tree path) (get work path) → ⊥
  pub free : IsInTheWay index tree work path → ⊥

-- the first cause at a path: that it is no text, that its file was changed, that a file stands in the way
abbrev pub RefusedAt : IndexMap → IndexMap → FileMap → List ℕ → CheckoutFault → Type 0
RefusedAt index tree work path (NotText at) = (at.items ≡ path) × IsNotText index tree path
RefusedAt index tree work path (LocalChange at) = (at.items ≡ path) × (IsNotText index tree path → ⊥) × HasLocalChange (get index path) (get tree path) (get work path)
RefusedAt index tree work path (InTheWay at) =
    (at.items ≡ path) × (IsNotText index tree path → ⊥) × (HasLocalChange (get index path) (get tree path) (get work path) → ⊥) × IsInTheWay index tree work path
RefusedAt index tree work path (BadPath at) = ⊥
RefusedAt index tree work path (Index fault) = ⊥

-- the first cause at the first path by bytes that has one
abbrev pub IsRefused : IndexMap → IndexMap → FileMap → CheckoutFault → Type 0
IsRefused index tree work fault =
    (path : List ℕ) × RefusedAt index tree work path fault × ((before : List ℕ) → slice_cmp nat_cmp before path ≡ Less → IsClear index tree work before)
