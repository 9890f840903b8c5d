-- The text of an index: a line for each file, in the order of their paths. It is that of `git ls-files --stage -z`.
use Rattle.std.specs.Prelude.{◌≡◌, ◌≢◌, ℕ, List, [], ◌∷◌, ◌++◌, length, Option, Some}
use Rattle.std.specs.List.{AllByRecursion, flat_map}
use Rattle.std.specs.FinMap.{entries}
use Rattle.std.specs.Ordering.{nat_cmp}
use Rattle.std.specs.Cmp.Lexicographic.{slice_cmp}
use Rattle.std.specs.declared.cmp.Ordering.TheVariants.{Less}
use Rattle.hex.specs.Hex.{encode_lower}
use Rattle.vc_files.specs.declared.faults.Fault.TheVariants.{Memory}
use Rattle.vc_object.specs.Bytes.{cut}
use Rattle.vc_object.specs.Entries.{mode_of}
use Rattle.vc_object.specs.Items.{◌>>=◌}
use Rattle.vc_object.specs.Lines.{after_word, lower_id, split}
use Rattle.vc_object.specs.Tree.{mode_text}
use Rattle.vc_object.specs.declared.id.ObjectId.{ObjectId}
use Rattle.vc_object.specs.declared.mode.Mode.{Mode}
use Rattle.vc_object_map.specs.declared.faults.StoreFault.TheVariants.{Fault}
use Rattle.vc_index.specs.IndexMap.{IndexMap, IsIndex, IsFile, HasConflict, index_entry}
use Rattle.vc_index.specs.declared.entry.IndexEntry.{IndexEntry}
use Rattle.vc_index.specs.declared.faults.IndexFault.{IndexFault}
use Rattle.vc_index.specs.declared.faults.IndexFault.TheVariants.{BadPath, PathConflict, BadIndex, WrongEntry, Missing, Store}

-- an entry is spelled as its mode, a space, the digits of its id, ` 0`, a TAB, its path and a NUL
abbrev pub entry_text : List ℕ → IndexEntry → List ℕ
entry_text path entry = mode_text entry.mode ++ (32 ∷ []) ++ encode_lower entry.id.0 ++ (32 ∷ 48 ∷ 9 ∷ []) ++ path ++ (0 ∷ [])

-- the text of an index
abbrev pub index_text : IndexMap → List ℕ
index_text m = flat_map (λ e. entry_text e.0 e.1) (entries m)

-- the entry may stand behind those of the index: it comes after them, and fits in
pub record MayFollow (m : IndexMap) (path : List ℕ) (entry : IndexEntry) : Type 0 where
  pub file : IsFile path entry
  pub last : AllByRecursion (λ e. slice_cmp nat_cmp e.0 path ≡ Less) (entries m)
  pub free : ¬ (HasConflict m path)

-- the bytes begin with an index text of that length, and no entry that may follow comes next
pub record TextFault (bytes : List ℕ) (place : ℕ) : Type 0 where
  pub before : IndexMap
  pub sound : IsIndex before
  pub rest : List ℕ
  pub is : bytes ≡ index_text before ++ rest
  pub at : place ≡ length (index_text before)
  pub some : rest ≢ []
  pub none : (path : List ℕ) (entry : IndexEntry) (more : List ℕ) → MayFollow before path entry → rest ≢ entry_text path entry ++ more

-- why bytes were not read as an index
abbrev pub IsOfRead : List ℕ → IndexFault → Type 0
IsOfRead bytes BadPath = ⊥
IsOfRead bytes PathConflict = ⊥
IsOfRead bytes (BadIndex place) = TextFault bytes place
IsOfRead bytes (WrongEntry at) = ⊥
IsOfRead bytes (Missing id) = ⊥
IsOfRead bytes (Store fault) = fault ≡ Fault Memory

-- the mode at the front, and the bytes after its space
unfoldable pub mode_at : List ℕ → Option (Mode × List ℕ)
mode_at bytes = do
  digits ← split 6 bytes
  mode ← mode_of digits.0
  rest ← after_word (32 ∷ []) digits.1
  Some (mode, rest)

-- the id at the front, and the bytes after its stage and TAB
unfoldable pub id_at : List ℕ → Option (ObjectId × List ℕ)
id_at bytes = do
  digits ← split 40 bytes
  id ← lower_id digits.0
  rest ← after_word (32 ∷ 48 ∷ 9 ∷ []) digits.1
  Some (id, rest)

-- the entry at the front, and the bytes after it
unfoldable pub entry_at : List ℕ → Option (List ℕ × IndexEntry × List ℕ)
entry_at bytes = do
  mode ← mode_at bytes
  id ← id_at mode.1
  path ← cut 0 id.1
  Some (path.0, index_entry mode.0 id.0, path.1)
