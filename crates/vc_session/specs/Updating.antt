-- What stands against an update: a reason that the push is told, or a fault of the node's own files.
use Rattle.std.specs.Prelude.{◌≡◌, ◌⊎◌, ⊤, ℕ, List, Option, Some, Result, Ok, Err, IfOk, OnErr, string_bytes}
use Rattle.vc_files.specs.FileMap.{FileMap}
use Rattle.vc_push.specs.Push.{CommandText}
use Rattle.vc_push.specs.declared.reason.Reason.{Reason}
use Rattle.vc_push.specs.declared.reason.Reason.TheVariants as reason
use Rattle.vc_refs.specs.Head.{KeepsTheRest}
use Rattle.vc_refs.specs.Refs.{packed_path, refs, IsBadRef}
use Rattle.vc_refs.specs.Obstacle.{IsFirstInTheWay}
use Rattle.vc_refs.specs.declared.faults.RefFault.{RefFault}
use Rattle.vc_refs.specs.declared.faults.RefFault.TheVariants.{Stale, Conflict, BadRefFile, HeadLoop, Fault}
use Rattle.vc_quarantine.specs.Clean.{KeepsPacked, MakesNoneBad}
use Rattle.vc_push_rules.specs.Verdict.{refs_after}

-- a file of the refs that can't be read: the packed one, the first that stands in the ref's way, or its own
abbrev pub BlamesUpdate : FileMap → List ℕ → RefFault → Type 0
BlamesUpdate content name (Stale current) = ⊥
BlamesUpdate content name (Conflict other) = ⊥
BlamesUpdate content name (BadRefFile path) = IsBadRef content (string_bytes path) × (IsFirstInTheWay content name (string_bytes path) ⊎ ((string_bytes path ≡ name) ⊎ (string_bytes path ≡ packed_path)))
BlamesUpdate content name HeadLoop = ⊥
BlamesUpdate content name (Fault fault) = ⊤

-- a ref in the way and another value are the push's matter, and the rest is not
abbrev pub reason_of : RefFault → Result (Option Reason) RefFault
reason_of (Stale current) = Ok (Some reason.Stale)
reason_of (Conflict other) = Ok (Some reason.NameConflict)
reason_of (BadRefFile path) = Err (BadRefFile path)
reason_of HeadLoop = Err HeadLoop
reason_of (Fault fault) = Err (Fault fault)

-- What an update does to the files: its ref is set where nothing is against it, all else stays, and so do the packed refs, no file
-- becomes bad, and an error changes nothing.
pub record UpdatesRef {F : Type 0} (honest : Type 0) (content : F → FileMap) (c : CommandText) (old new : F) (result : Result (Option Reason) RefFault) : Type 0 where
  pub set : honest → IfOk result (λ found. refs (content new) ≡ refs_after (refs (content old)) c found)
  pub rest : honest → KeepsTheRest c.name (content old) (content new)
  pub err : honest → OnErr result (content new ≡ content old)
  pub bad : honest → MakesNoneBad (content old) (content new)
  pub packed : honest → KeepsPacked (content old) (content new)
