-- One turn of the shared node at a connection: what comes of the reader, what the node does with it, and what is written.
use Rattle.std.specs.Prelude.{◌≡◌, ℕ, Bool, true, false, not, List, Option, Some, Result, Ok, Err, IfErr, IfNone, IfOk}
use Rattle.vc_files.specs.FileMap.{FileMap}
use Rattle.vc_local.specs.NodeFault.{is_of_own_file}
use Rattle.vc_shared.specs.AcceptFault.{up_after}
use Rattle.vc_shared.specs.Arriving.{KeepsHeld}
use Rattle.vc_shared.specs.Holding.{SharedText}
use Rattle.vc_shared.specs.declared.accept_fault.AcceptFault.TheVariants.{ReadFailed as Lost}
use Rattle.vc_server.specs.Coming.{Reply, ServesFrom}
use Rattle.vc_server.specs.Telling.{TellsAnswer}
use Rattle.vc_server.specs.declared.serve_fault.ServeFault.{ServeFault}
use Rattle.vc_server.specs.declared.serve_fault.ServeFault.TheVariants.{Fault, Memory, ReadFailed, WriteFailed}
use Rattle.vc_server.specs.declared.telling.Served.{Served}
use Rattle.vc_server.specs.declared.telling.Served.TheVariants.{End, Refused}

-- What came is served, and what is written tells of the answer. Where nothing came, or the reader failed, the node stays as it is.
pub record TakesTurn {F R W : Type 0} (honest : Type 0) (content : F → FileMap) (remaining : R → Option (List ℕ)) (contents : W → Option (List ℕ)) (old new : SharedText F) (reader rest : R) (before after : W) (result : Result Served ServeFault) : Type 0 where
  pub answered : Reply
  pub serves : ServesFrom honest (remaining reader) (remaining rest) (content old.files) (content new.files) old.slots new.slots old.is_up new.is_up answered
  pub none : IfOk answered (λ found. IfNone found (new ≡ old))
  pub lost : honest → IfErr answered (λ e. e ≡ Lost → KeepsHeld (content old.files) (content new.files) old.slots new.slots old.is_up new.is_up)
  pub told : TellsAnswer contents before after answered result
  pub up : old.is_up ≡ true → new.is_up ≡ up_after answered

-- the answer where a message is the first that the reader has: what is behind it is left, unless the reader or the node failed
abbrev pub LeavesRest : List ℕ → Option (List ℕ) → Result Served ServeFault → Type 0
LeavesRest rest new (Ok End) = ⊥
LeavesRest rest new (Err ReadFailed) = Unit {0}
LeavesRest rest new (Err (Fault fault)) = Unit {0}
LeavesRest rest new (Err Memory) = Unit {0}
LeavesRest rest new _ = new ≡ Some rest

-- What a turn tells of the node after it: a fault of its own has taken it down, and so has a bad file of its own, for which it refused
-- the message. Of a refusal that could not be written no number is told.
abbrev pub IsUpThen : Bool → Result Served ServeFault → Type 0
IsUpThen is_up (Ok (Refused number)) = is_up ≡ not (is_of_own_file number)
IsUpThen is_up (Err (Fault fault)) = is_up ≡ false
IsUpThen is_up (Err Memory) = Unit {0}
IsUpThen is_up (Err WriteFailed) = Unit {0}
IsUpThen is_up _ = is_up ≡ true

-- whether a fault of the node's own ended the turn
abbrev pub ends_in_fault : Result Served ServeFault → Bool
ends_in_fault (Err (Fault fault)) = true
ends_in_fault _ = false
