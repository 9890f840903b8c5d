-- An event and an answer by a kind, a number and bytes: two that have the same are the same.
use Rattle.std.specs.Prelude.{ℕ, List, []}
use Rattle.vc_files.specs.declared.faults.Fault.{Fault as FilesFault}
use Rattle.vc_files.specs.declared.faults.Fault.TheVariants as files
use Rattle.vc_push.specs.Reason.{number_or_zero, reason_number}
use Rattle.vc_desk.specs.Entry.{AnswerText, EventText}
use Rattle.vc_desk.specs.Entry.AnswerText.{Replied, Opened, Checked, Migrated, Updated, Atomic, AtomicRefused, Finished, Failed}
use Rattle.vc_desk.specs.Entry.EventText.{Accepts, Steps}
use Rattle.vc_desk.specs.declared.entry.Failure.TheVariants.{Fault, NotOurs, Refused}

pub record Parts : Type 0 where
  pub kind : ℕ
  pub number : ℕ
  pub bytes : List ℕ

abbrev pub parts : ℕ → ℕ → List ℕ → Parts
parts kind number bytes = record { kind = kind; number = number; bytes = bytes }

abbrev pub event_parts : EventText → Parts
event_parts (Accepts bytes) = parts 0 0 bytes
event_parts (Steps slot) = parts 1 slot []

abbrev pub fault_number : FilesFault → ℕ
fault_number files.Memory = 0
fault_number files.Device = 1

abbrev pub answer_parts : AnswerText → Parts
answer_parts (Replied bytes) = parts 0 0 bytes
answer_parts (Opened slot) = parts 1 slot []
answer_parts (Checked passed) = parts 2 passed []
answer_parts Migrated = parts 3 0 []
answer_parts (Updated name found) = parts 4 (number_or_zero found) name
answer_parts (Atomic refs) = parts 5 refs []
answer_parts (AtomicRefused name reason) = parts 6 (reason_number reason) name
answer_parts (Finished report) = parts 7 0 report
answer_parts (Failed (NotOurs id)) = parts 8 0 id.0
answer_parts (Failed (Refused number)) = parts 9 number []
answer_parts (Failed (Fault fault)) = parts 10 (fault_number fault) []
