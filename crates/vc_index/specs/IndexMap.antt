-- An index as a finite map from paths to modes and ids.
use Rattle.std.specs.Prelude.{◌≡◌, ◌≢◌, ◌⊎◌, ℕ, true, List, Vec, map, IsSome, Some}
use Rattle.std.specs.BTreeMap.{BTreeMap}
use Rattle.std.specs.Cmp.Lexicographic.{slice_cmp}
use Rattle.std.specs.Coded.{Coded, coded_ℕ, coded_list}
use Rattle.std.specs.FinMap.{FinMap, get, from_entries, code}
use Rattle.std.specs.Global.{Global}
use Rattle.std.specs.Ordering.{nat_cmp}
use Rattle.vc_object.specs.ObjectId.{is_id}
use Rattle.vc_object.specs.declared.id.ObjectId.{ObjectId}
use Rattle.vc_object.specs.declared.mode.Mode.{Mode}
use Rattle.vc_object.specs.declared.mode.Mode.TheVariants as modes
use Rattle.vc_index.specs.Path.{IsPath, IsAbove}
use Rattle.vc_index.specs.declared.entry.IndexEntry.{IndexEntry}
use Rattle.vc_index.specs.contracts.entry.IndexEntry as entry

-- from the bytes of a path to what stands there
abbrev pub IndexMap : Type 0
IndexMap = FinMap (slice_cmp nat_cmp) IndexEntry

abbrev pub index_code : Coded IndexMap
index_code = code (coded_list coded_ℕ) (entry.the_row).coded

-- a mode and an id as an entry
abbrev pub index_entry : Mode → ObjectId → IndexEntry
index_entry mode id = record { mode = mode; id = id }

-- the map that a tree of paths holds
abbrev pub index_of : BTreeMap (Vec ℕ Global) IndexEntry → IndexMap
index_of m = from_entries (map (λ e. (e.0.items, e.1)) m.entries)

-- what may stand at a path: a file, a link or a commit of another repository
pub record IsFile (path : List ℕ) (entry : IndexEntry) : Type 0 where
  pub legal : IsPath path
  pub mode : entry.mode ≢ modes.Tree
  pub id : is_id entry.id ≡ true

-- an index: each path has a file, and no file's path is the folder of another's
pub record IsIndex (m : IndexMap) : Type 0 where
  pub file : (path : List ℕ) (entry : IndexEntry) → get m path ≡ Some entry → IsFile path entry
  pub apart : (path other : List ℕ) → IsSome (get m path) → IsSome (get m other) → IsAbove path other → ⊥

-- a folder above the path is a file of the index
abbrev pub HasFileAbove : IndexMap → List ℕ → Type 0
HasFileAbove m path = (other : List ℕ) × IsSome (get m other) × IsAbove other path

-- a file of the index is a folder of the path, or in the path as a folder
abbrev pub HasConflict : IndexMap → List ℕ → Type 0
HasConflict m path = (other : List ℕ) × IsSome (get m other) × (IsAbove other path ⊎ IsAbove path other)
