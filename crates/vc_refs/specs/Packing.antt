-- What packing all refs does to the files, and what taking one out of the packed file does.
use Rattle.std.specs.Prelude.{◌≡◌, ◌⊎◌, ℕ, Bool, true, false, bytes_eq, List, [], ◌∷◌, Option, Some, None}
use Rattle.std.specs.FinMap.{insert}
use Rattle.std.specs.FinMap as files
use Rattle.std.specs.List.{list_any, AllByRecursion}
use Rattle.std.specs.Ordering.{eq_by_cmp, nat_cmp}
use Rattle.std.specs.Cmp.Lexicographic.{slice_cmp}
use Rattle.vc_files.specs.FileMap.{FileMap}
use Rattle.vc_object.specs.declared.id.ObjectId.{ObjectId}
use Rattle.vc_refs.specs.Packed.{PackedMap, PackedRef, packed_text}
use Rattle.vc_refs.specs.RefMap.{RefMap, entry_at, without_ref, IsInRefs, IsRefMap}
use Rattle.vc_refs.specs.Refs.{is_taken, loose_refs, packed_at, packed_map, packed_path, refs, ChangesOnly, IsBadLoose, IsGoodPackedFile}

-- a file stands in `refs/`
abbrev pub HasLoose : FileMap → Type 0
HasLoose content = (path : List ℕ) × (is_taken content path ≡ true)

-- none does
abbrev pub HasNoLoose : FileMap → Type 0
HasNoLoose content = (path : List ℕ) → is_taken content path ≡ false

-- the name is not packed any more, each other ref is packed as before, and no other file has changed
pub record IsUnpacked (name : List ℕ) (old new : FileMap) : Type 0 where
  pub good : IsGoodPackedFile new
  pub packed : (q : List ℕ) → packed_at (packed_map new) q ≡ without_ref (packed_at (packed_map old)) name q
  pub only : ChangesOnly packed_path old new

-- the packed file says of each other name what it said
pub record UnpacksOnly (name : List ℕ) (old new : FileMap) : Type 0 where
  pub at : (q : List ℕ) → bytes_eq q name ≡ false → packed_at (packed_map new) q ≡ packed_at (packed_map old) q

-- ---- all refs in one map

-- the map with this id at the name, or as it is if there is none
abbrev pub with_loose : PackedMap → List ℕ → Option ObjectId → PackedMap
with_loose packed name None = packed
with_loose packed name (Some id) = insert packed name id

-- the refs whose own files have these paths, in the order of the paths
abbrev pub with_first : Option PackedRef → List PackedRef → List PackedRef
with_first None refs = refs
with_first (Some ref) refs = ref ∷ refs

abbrev pub loose_at : FileMap → List (List ℕ) → List PackedRef
loose_at content [] = []
loose_at content (path ∷ paths) = with_first (entry_at (loose_refs content) path) (loose_at content paths)

-- the map with these put over it, one after the other
abbrev pub with_all : PackedMap → List PackedRef → PackedMap
with_all packed [] = packed
with_all packed (ref ∷ refs) = with_all (insert packed ref.0 ref.1) refs

-- each name is in `refs/`
abbrev pub AreInRefs : List PackedRef → Type 0
AreInRefs refs = AllByRecursion (λ (ref : PackedRef). IsInRefs ref.0) refs

-- no path is that of a bad file
abbrev pub AreGood : FileMap → List (List ℕ) → Type 0
AreGood content paths = AllByRecursion (λ p. IsBadLoose content p → ⊥) paths

-- the finite map has just these refs
abbrev pub IsMapOf : RefMap → PackedMap → Type 0
IsMapOf map packed = (name : List ℕ) → files.get packed name ≡ map name

-- the packed file's text has the line of each of these refs, and nothing else
abbrev pub IsTextOf : RefMap → Option (List ℕ) → Type 0
IsTextOf map text = (packed : PackedMap) × IsMapOf map packed × (text ≡ Some (packed_text packed))

-- no file is left in `refs/`, and the packed file has all refs, of which none is a folder of another; if no file was there,
-- nothing has changed
pub record IsPackedFrom (old new : FileMap) : Type 0 where
  pub apart : IsRefMap (refs old)
  pub loose : HasNoLoose new
  pub packed : (new ≡ old) ⊎ IsTextOf (refs old) (files.get new packed_path)

-- whether the path is one of these
abbrev pub is_one_of : List ℕ → List (List ℕ) → Bool
is_one_of path paths = list_any (eq_by_cmp (slice_cmp nat_cmp) path) paths

-- each file is as before, or it had one of these paths and is gone
pub record LosesSome (paths : List (List ℕ)) (old new : FileMap) : Type 0 where
  pub at : (q : List ℕ) → (files.get new q ≡ files.get old q) ⊎ ((is_one_of q paths ≡ true) × (files.get new q ≡ None))

-- none of these is there
abbrev pub AreGone : List (List ℕ) → FileMap → Type 0
AreGone paths content = (q : List ℕ) → is_one_of q paths ≡ true → files.get content q ≡ None
