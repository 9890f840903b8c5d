-- What each refusal of a loose file blames.
use Rattle.std.specs.Prelude.{◌≡◌, ◌≢◌, ⊤, ℕ, true, List, None, is_some, string_bytes}
use Rattle.std.specs.Ordering.{nat_cmp}
use Rattle.std.specs.declared.cmp.Ordering.TheVariants.{Greater}
use Rattle.std.specs.Cmp.Lexicographic.{slice_cmp}
use Rattle.vc_files.specs.FileMap.{FileMap}
use Rattle.vc_refs.specs.LooseObstacle.{IsFirstInTheWay}
use Rattle.vc_refs.specs.Refs.{loose_refs, IsBadLoose}
use Rattle.vc_refs.specs.declared.faults.RefFault.{RefFault}
use Rattle.vc_refs.specs.declared.faults.RefFault.TheVariants.{Stale, Conflict, BadRefFile, HeadLoop, Fault}

-- a look at a ref's own file is refused for it
abbrev pub BlamesRef : FileMap → List ℕ → RefFault → Type 0
BlamesRef content name (Stale current) = ⊥
BlamesRef content name (Conflict other) = ⊥
BlamesRef content name (BadRefFile path) = (string_bytes path ≡ name) × IsBadLoose content name
BlamesRef content name HeadLoop = ⊥
BlamesRef content name (Fault fault) = ⊤

-- a look at the file of one path is refused if that path stands for no ref
abbrev pub BlamesPath : FileMap → List ℕ → RefFault → Type 0
BlamesPath content at (Stale current) = ⊥
BlamesPath content at (Conflict other) = ⊥
BlamesPath content at (BadRefFile path) = (string_bytes path ≡ at) × (loose_refs content at ≡ None)
BlamesPath content at HeadLoop = ⊥
BlamesPath content at (Fault fault) = ⊤

-- what stands in the way is a ref, or a bad file
abbrev pub BlamesObstacle : FileMap → List ℕ → RefFault → Type 0
BlamesObstacle content name (Stale current) = ⊥
BlamesObstacle content name (Conflict other) = IsFirstInTheWay content name other × (is_some (loose_refs content other) ≡ true)
BlamesObstacle content name (BadRefFile path) = IsBadLoose content (string_bytes path) × IsFirstInTheWay content name (string_bytes path)
BlamesObstacle content name HeadLoop = ⊥
BlamesObstacle content name (Fault fault) = ⊤

-- the first bad file in `refs/`, by the bytes of the path
pub record IsFirstBadLoose (content : FileMap) (path : List ℕ) : Type 0 where
  pub bad : IsBadLoose content path
  pub first : (q : List ℕ) → IsBadLoose content q → slice_cmp nat_cmp path q ≢ Greater

-- a listing is refused for the first bad file
abbrev pub BlamesList : FileMap → RefFault → Type 0
BlamesList content (Stale current) = ⊥
BlamesList content (Conflict other) = ⊥
BlamesList content (BadRefFile path) = IsFirstBadLoose content (string_bytes path)
BlamesList content HeadLoop = ⊥
BlamesList content (Fault fault) = ⊤
