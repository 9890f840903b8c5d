-- The refs that files stand for: one packed file, and over it a ref's own file, whose path is the ref's name.
use Rattle.std.specs.Prelude.{◌≡◌, ◌⊎◌, ℕ, Bool, ◌&&◌, true, false, nat_eq, bytes_eq, List, Option, Some, None, is_some, if◌then◌else◌, codes, option_and_then}
use Rattle.std.specs.List.{starts_with}
use Rattle.std.specs.FinMap.{empty}
use Rattle.std.specs.FinMap as files
use Rattle.vc_files.specs.FileMap.{FileMap}
use Rattle.vc_refs.specs.Packed.{PackedMap, packed_refs}
use Rattle.vc_refs.specs.RefFile.{id_in}
use Rattle.vc_refs.specs.RefMap.{RefMap, is_ref}

-- ---- a ref's own file

-- the id that it spells, if the path is a ref's name
unfoldable pub loose_refs : FileMap → RefMap
loose_refs content name = if is_ref name then option_and_then id_in (files.get content name) else None

-- whether a file in `refs/` has this path
abbrev pub is_taken : FileMap → List ℕ → Bool
is_taken content path = starts_with nat_eq path (codes "refs/") && is_some (files.get content path)

-- a file in `refs/` that stands for no ref: its path is no legal name, or it spells no id
pub record IsBadLoose (content : FileMap) (path : List ℕ) : Type 0 where
  pub taken : is_taken content path ≡ true
  pub none : loose_refs content path ≡ None

-- each file in `refs/` stands for a ref
abbrev pub SpellsLoose : FileMap → Type 0
SpellsLoose content = (path : List ℕ) → IsBadLoose content path → ⊥

-- no file but the one at this path has changed
pub record ChangesOnly (path : List ℕ) (old new : FileMap) : Type 0 where
  pub at : (q : List ℕ) → bytes_eq q path ≡ false → files.get new q ≡ files.get old q

-- ---- the packed file

-- the path of the packed file
abbrev pub packed_path : List ℕ
packed_path = codes "packed-refs"

-- no refs if there is no packed file, and else those of its text, or none at all if it is bad
abbrev pub packed_in : Option (List ℕ) → Option PackedMap
packed_in None = Some empty
packed_in (Some text) = packed_refs text

unfoldable pub packed_map : FileMap → Option PackedMap
packed_map content = packed_in (files.get content packed_path)

-- the packed file is there, and its text is bad
abbrev pub IsBadPackedFile : FileMap → Type 0
IsBadPackedFile content = packed_map content ≡ None

-- it isn't there, or its text is good
abbrev pub IsGoodPackedFile : FileMap → Type 0
IsGoodPackedFile content = IsBadPackedFile content → ⊥

-- the id of a packed ref
abbrev pub packed_at : Option PackedMap → RefMap
packed_at None name = None
packed_at (Some packed) name = files.get packed name

-- ---- all refs

-- a name has the value that its own file spells, if that file is there, and else the packed one
unfoldable pub refs : FileMap → RefMap
refs content name = if is_taken content name then loose_refs content name else packed_at (packed_map content) name

-- the file that says what a name stands for
abbrev pub deciding_file : FileMap → List ℕ → List ℕ
deciding_file content name = if is_taken content name then name else packed_path

-- a file of the refs that can't be read: one in `refs/` that stands for no ref, or the packed file
abbrev pub IsBadRef : FileMap → List ℕ → Type 0
IsBadRef content path = IsBadLoose content path ⊎ ((path ≡ packed_path) × IsBadPackedFile content)

-- each file of the refs can be read
abbrev pub SpellsRefs : FileMap → Type 0
SpellsRefs content = (path : List ℕ) → IsBadRef content path → ⊥
