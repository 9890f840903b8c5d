-- What opening leaves of files whose quarantines are emptied first.
use Rattle.std.specs.Prelude.{◌≡◌, ℕ, List, true, nat_eq, None, codes}
use Rattle.std.specs.FinMap.{get}
use Rattle.std.specs.List.{starts_with}
use Rattle.vc_files.specs.FileMap.{FileMap, SameOutside}
use Rattle.vc_local.specs.Clean.{KeepsClean}
use Rattle.vc_local.specs.Shown.{IsReady}
use Rattle.vc_push_rules.specs.Quarantine.{OnlyLoses}

-- where the quarantines of all slots stand
abbrev pub quarantines : List ℕ
quarantines = codes "quarantine/"

-- no file is left in any
abbrev pub AreEmpty : FileMap → Type 0
AreEmpty content = (path : List ℕ) → starts_with nat_eq path quarantines ≡ true → get content path ≡ None

-- files of quarantines are gone, and nothing else has changed
pub record LosesCarried (old new : FileMap) : Type 0 where
  pub outside : SameOutside quarantines old new
  pub left : OnlyLoses old new

-- The files were opened: their quarantines were emptied, and then they were made ready.
pub record IsOpened (old new : FileMap) : Type 0 where
  pub mid : FileMap
  pub loses : LosesCarried old mid
  pub empty : AreEmpty mid
  pub ready : IsReady mid new
  pub keeps : KeepsClean mid new
