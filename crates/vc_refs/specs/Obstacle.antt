-- What stands in the way of a ref, loose or packed.
use Rattle.std.specs.Prelude.{◌≡◌, ◌≢◌, ℕ, Bool, true, false, ◌||◌, List, is_some}
use Rattle.std.specs.FinMap as files
use Rattle.std.specs.Ordering.{nat_cmp}
use Rattle.std.specs.declared.cmp.Ordering.TheVariants.{Less, Greater}
use Rattle.std.specs.Cmp.Lexicographic.{slice_cmp}
use Rattle.vc_files.specs.FileMap.{FileMap}
use Rattle.vc_refs.specs.LooseObstacle as loose
use Rattle.vc_refs.specs.Packed.{PackedMap}
use Rattle.vc_refs.specs.RefMap.{conflicts}
use Rattle.vc_refs.specs.Refs.{is_taken, packed_at, packed_map, IsGoodPackedFile}

-- whether a ref of this name is there, loose or packed, or a bad file in its place
abbrev pub is_held : FileMap → List ℕ → Bool
is_held content name = is_taken content name || is_some (packed_at (packed_map content) name)

-- such a name, and this name and it are a folder of one another
pub record IsInTheWay (content : FileMap) (name other : List ℕ) : Type 0 where
  pub held : is_held content other ≡ true
  pub conflict : conflicts other name ≡ true

-- the first of them, by the bytes of the name
pub record IsFirstInTheWay (content : FileMap) (name other : List ℕ) : Type 0 where
  pub here : IsInTheWay content name other
  pub first : (q : List ℕ) → IsInTheWay content name q → slice_cmp nat_cmp other q ≢ Greater

-- nothing stands in the way, and the packed file can be read
pub record IsFree (content : FileMap) (name : List ℕ) : Type 0 where
  pub packed : IsGoodPackedFile content
  pub none : (other : List ℕ) → IsInTheWay content name other → ⊥

-- ---- among the packed refs alone

-- a packed ref whose name and this name are a folder of one another
pub record IsPackedInTheWay (packed : PackedMap) (name other : List ℕ) : Type 0 where
  pub held : is_some (files.get packed other) ≡ true
  pub conflict : conflicts other name ≡ true

-- the first of them
pub record IsFirstPackedInTheWay (packed : PackedMap) (name other : List ℕ) : Type 0 where
  pub here : IsPackedInTheWay packed name other
  pub first : (q : List ℕ) → IsPackedInTheWay packed name q → slice_cmp nat_cmp other q ≢ Greater

-- there is none
abbrev pub IsFreeOfPacked : PackedMap → List ℕ → Type 0
IsFreeOfPacked packed name = (other : List ℕ) → IsPackedInTheWay packed name other → ⊥

-- the first loose file in the way comes after this name, or it comes first or has it as its path
abbrev pub ComesFirst : FileMap → List ℕ → List ℕ → Bool → Type 0
ComesFirst content name other true = (q : List ℕ) → loose.IsInTheWay content name q → slice_cmp nat_cmp other q ≡ Less
ComesFirst content name other false = (path : List ℕ) × loose.IsInTheWay content name path × (slice_cmp nat_cmp path other ≢ Greater)

-- no packed ref in the way comes before all loose files that are
abbrev pub IsBehindLoose : FileMap → PackedMap → List ℕ → Type 0
IsBehindLoose content packed name = (q : List ℕ) → IsPackedInTheWay packed name q → (path : List ℕ) × loose.IsInTheWay content name path × (slice_cmp nat_cmp path q ≢ Greater)

-- a packed ref in the way comes before all loose files that are, and before each other packed one
abbrev pub IsPackedFirst : FileMap → PackedMap → List ℕ → List ℕ → Type 0
IsPackedFirst content packed name other = IsFirstPackedInTheWay packed name other × ComesFirst content name other true
