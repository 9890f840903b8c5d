-- What is written of an answer: the bytes of a reply, or an Error that tells of a refusal.
use Rattle.std.specs.Io.KnownBytes.{Appends}
use Rattle.std.specs.List.{flat_map}
use Rattle.std.specs.Prelude.{◌≡◌, ◌++◌, ℕ, List, Option, Some, None, Result, Ok, Err, codes, decimal}
use Rattle.hex.specs.Hex.{encode_lower}
use Rattle.vc_fetch.specs.ErrorMessage.{error_lines}
use Rattle.vc_files.specs.declared.faults.Fault.{Fault as FilesFault}
use Rattle.vc_model.specs.Node.{Answer}
use Rattle.vc_model.specs.Node.Answer.{Declined, Fault as Failed}
use Rattle.vc_local.specs.Machine.{failure_of}
use Rattle.vc_pkt.specs.Line.{spelling}
use Rattle.vc_shared.specs.Faults.{fault_answer}
use Rattle.vc_shared.specs.declared.accept_fault.AcceptFault.TheVariants.{Node, ReadFailed as Lost}
use Rattle.vc_shared.specs.declared.fault.SharedFault.{SharedFault}
use Rattle.vc_shared.specs.declared.fault.SharedFault.TheVariants.{NotOurs}
use Rattle.vc_server.specs.Coming.{Reply}
use Rattle.vc_server.specs.declared.serve_fault.ServeFault.{ServeFault}
use Rattle.vc_server.specs.declared.serve_fault.ServeFault.TheVariants.{Fault, Memory, ReadFailed, WriteFailed}
use Rattle.vc_server.specs.declared.telling.Served.{Served}
use Rattle.vc_server.specs.declared.telling.Served.TheVariants.{Answered, End, Refused}

-- the machine's answer, by the number of a refusal or the fault
abbrev pub ended_by : Result ℕ FilesFault → Answer
ended_by (Ok number) = Declined number
ended_by (Err fault) = Failed (failure_of fault)

-- the words that tell of a refusal of this number
abbrev pub refusal_words : SharedFault → ℕ → List ℕ
refusal_words (NotOurs id) number = codes "not our ref " ++ encode_lower id.0
refusal_words _ number = codes "refused " ++ decimal number

-- the Error that has them, as it is written
abbrev pub error_bytes : SharedFault → ℕ → List ℕ
error_bytes e number = flat_map spelling (error_lines (refusal_words e number))

module _ {W : Type 0} (contents : W → Option (List ℕ)) (old new : W) where
  -- A refusal is told by its Error, and a fault of the node not at all. Where there is no memory for an Error, nothing is written.
  abbrev pub TellsRefusal : SharedFault → Result Served ServeFault → Type 0
  TellsRefusal e (Ok (Refused number)) = (fault_answer e ≡ Declined number) × Appends (contents old) (contents new) (error_bytes e number)
  TellsRefusal e (Err (Fault fault)) = (fault_answer e ≡ Failed (failure_of fault)) × (new ≡ old)
  TellsRefusal e (Err Memory) = ((number : ℕ) × (fault_answer e ≡ Declined number)) × (new ≡ old)
  TellsRefusal e (Err WriteFailed) = (number : ℕ) × (fault_answer e ≡ Declined number)
  TellsRefusal e _ = ⊥

  -- a reply is told by its bytes; where nothing came, or the reader failed, nothing is told
  abbrev pub TellsAnswer : Reply → Result Served ServeFault → Type 0
  TellsAnswer (Ok (Some reply)) (Ok Answered) = Appends (contents old) (contents new) reply.items
  TellsAnswer (Ok (Some reply)) (Err WriteFailed) = Unit {0}
  TellsAnswer (Ok (Some reply)) _ = ⊥
  TellsAnswer (Ok None) result = (new ≡ old) × (result ≡ Ok End)
  TellsAnswer (Err Lost) result = (new ≡ old) × (result ≡ Err ReadFailed)
  TellsAnswer (Err (Node e)) result = TellsRefusal e result
