-- Stores by the names of their folders: what a command leaves of them.
use Rattle.std.specs.Io.KnownBytes.{Keeps}
use Rattle.std.specs.Prelude.{◌≡◌, ◌≢◌, ◌⊎◌, ⊤, ℕ, List, Option}
use Rattle.vc_files.specs.FileMap.{FileMap}
use Rattle.vc_cli.specs.declared.failure.Failure.{Failure}
use Rattle.vc_cli.specs.declared.failure.Failure.TheVariants.{Busy, Fault, Usage}

-- what each store has, by its name
abbrev pub Contents : Type 0
Contents = List ℕ → FileMap

-- every other store has what it had
abbrev pub OthersStay : List ℕ → Contents → Contents → Type 0
OthersStay store old new = (name : List ℕ) → name ≢ store → new name ≡ old name

-- every store has what it had
abbrev pub StoresStay : Contents → Contents → Type 0
StoresStay old new = (name : List ℕ) → new name ≡ old name

-- the store has these files now, and every other one what it had
pub record GivesBack (store : List ℕ) (files : FileMap) (old new : Contents) : Type 0 where
  pub here : new store ≡ files
  pub others : OthersStay store old new

-- why a store is not opened: it is Git's, or a fault
abbrev pub IsUnopened : Failure → Type 0
IsUnopened (Usage text) = ⊤
IsUnopened (Fault fault) = ⊤
IsUnopened _ = ⊥

-- why a command on one store ends early: the store is not opened, and every one has what it had; or another cause
abbrev pub IsUnopenedOr : Contents → Contents → (Failure → Type 0) → Failure → Type 0
IsUnopenedOr old new Cause e = (IsUnopened e × StoresStay old new) ⊎ Cause e

-- the same of a command that prints: a store that is not opened lets nothing be printed
abbrev pub IsUntoldOr : Contents → Contents → (before after : Option (List ℕ)) → (Failure → Type 0) → Failure → Type 0
IsUntoldOr old new before after Cause e = (IsUnopened e × StoresStay old new × Keeps before after) ⊎ Cause e

-- the same of a command that leaves every store as it was, which another clause says
abbrev pub OrUnopened : (Failure → Type 0) → Failure → Type 0
OrUnopened Cause e = IsUnopened e ⊎ Cause e

-- why no object may be taken away from a store: somebody stands on objects that nothing names yet, or a fault
abbrev pub IsInUse : Failure → Type 0
IsInUse (Busy text) = ⊤
IsInUse (Fault fault) = ⊤
IsInUse _ = ⊥
