-- How far an index was read: the files so far, the path of the last one, and those with whose paths it begins.
use Rattle.std.specs.Prelude.{◌≡◌, ◌⊎◌, ℕ, Bool, false, bytes_eq, List, [], ◌++◌, map, Vec, IsSome, IsTrue}
use Rattle.std.specs.FinMap.{empty, entries, from_entries, get, insert}
use Rattle.std.specs.Global.{Global}
use Rattle.std.specs.List.{AllByRecursion, fold, list_any}
use Rattle.std.specs.Ordering.{nat_cmp, is_gt}
use Rattle.std.specs.Cmp.Lexicographic.{slice_cmp}
use Rattle.std.specs.declared.cmp.Ordering.TheVariants.{Less}
use Rattle.vc_files.specs.declared.faults.Fault.TheVariants.{Memory}
use Rattle.vc_object_map.specs.declared.faults.StoreFault.TheVariants.{Fault}
use Rattle.vc_index.specs.IndexMap.{HasFileAbove, IndexMap, IsIndex}
use Rattle.vc_index.specs.Path.{IsPath}
use Rattle.vc_index.specs.declared.entry.IndexEntry.{IndexEntry}
use Rattle.vc_index.specs.declared.faults.IndexFault.{IndexFault}
use Rattle.vc_index.specs.declared.faults.IndexFault.TheVariants.{PathConflict, Store}

-- files by their paths, without where these lie in memory
abbrev pub pairs : List (Vec ℕ Global × IndexEntry) → List (List ℕ × IndexEntry)
pairs files = map (λ e. (e.0.items, e.1)) files

-- the index of these files
abbrev pub index_with : List (Vec ℕ Global × IndexEntry) → IndexMap
index_with files = from_entries (pairs files)

-- the index after the files were put in, one after the other
abbrev pub with_files : List (List ℕ × IndexEntry) → IndexMap
with_files files = fold (λ m e. insert m e.0 e.1) empty files

-- why files make no index: one lies in another, or memory runs out
abbrev pub IsOfFiles : IndexMap → IndexFault → Type 0
IsOfFiles m PathConflict = IsIndex m → ⊥
IsOfFiles m (Store fault) = fault ≡ Fault Memory
IsOfFiles m _ = ⊥

-- the files are in the order of their paths, and no path stands twice
abbrev pub AreInOrder : List (Vec ℕ Global × IndexEntry) → Type 0
AreInOrder files = entries (index_with files) ≡ pairs files

-- the path begins with the front
abbrev pub IsFront : List ℕ → List ℕ → Type 0
IsFront front path = (rest : List ℕ) × (path ≡ front ++ rest)

-- whether this is one of the fronts
abbrev pub has_front : List (List ℕ) → List ℕ → Bool
has_front fronts path = list_any (λ front. bytes_eq front path) fronts

-- an index of which no file comes behind the last path, which is one of its files, or empty where it has none; the fronts
-- are its files, and each of its files with which the last path begins is one of the fronts
pub record IsReadTo (m : IndexMap) (last : List ℕ) (fronts : List (List ℕ)) : Type 0 where
  pub sound : IsIndex m
  pub below : AllByRecursion (λ (e : List ℕ × IndexEntry). is_gt (slice_cmp nat_cmp e.0 last) ≡ false) (entries m)
  pub is_last : (last ≡ []) ⊎ IsSome (get m last)
  pub some : (front : List ℕ) → IsTrue (has_front fronts front) → IsSome (get m front)
  pub all : (front : List ℕ) → IsSome (get m front) → IsFront front last → IsTrue (has_front fronts front)

-- a path may stand behind the last one: it is a legal one, comes behind it, and lies in none of the files
abbrev pub MayFollow : IndexMap → (last path : List ℕ) → Type 0
MayFollow m last path = (slice_cmp nat_cmp last path ≡ Less) × IsPath path × ¬ (HasFileAbove m path)
