-- What an entry of the log says: the event, the connection that brought it and the answer, by their bytes.
use Rattle.std.specs.Prelude.{◌≡◌, ◌≢◌, ℕ, List, Option, Result, Ok, Err}
use Rattle.vc_model.specs.Node.{Answer as MachineAnswer}
use Rattle.vc_model.specs.Node.Answer.{Declined, Fault as Faulted}
use Rattle.vc_object.specs.declared.id.ObjectId.{ObjectId}
use Rattle.vc_push.specs.declared.reason.Reason.{Reason}
use Rattle.vc_local.specs.Machine.{failure_of}
use Rattle.vc_shared.specs.Faults.{fault_answer}
use Rattle.vc_shared.specs.declared.accepting.Accepted.{Accepted}
use Rattle.vc_shared.specs.declared.accepting.Accepted.TheVariants as accepted
use Rattle.vc_shared.specs.declared.stepping.Stepped.{Stepped}
use Rattle.vc_shared.specs.declared.stepping.Stepped.TheVariants as stepped
use Rattle.vc_shared.specs.declared.fault.SharedFault.{SharedFault}
use Rattle.vc_shared.specs.declared.fault.SharedFault.TheVariants as shared
use Rattle.vc_desk.specs.declared.entry.Answer.{Answer}
use Rattle.vc_desk.specs.declared.entry.Answer.TheVariants as answers
use Rattle.vc_desk.specs.declared.entry.Entry.{Entry}
use Rattle.vc_desk.specs.declared.entry.Event.{Event}
use Rattle.vc_desk.specs.declared.entry.Event.TheVariants as events
use Rattle.vc_desk.specs.declared.entry.Failure.{Failure}
use Rattle.vc_desk.specs.declared.entry.Failure.TheVariants.{Fault, NotOurs, Refused}

pub data EventText : Type 0 where
  Accepts : List ℕ → EventText
  Steps : ℕ → EventText

pub data AnswerText : Type 0 where
  Replied : List ℕ → AnswerText
  Opened : ℕ → AnswerText
  Checked : ℕ → AnswerText
  Migrated : AnswerText
  Updated : List ℕ → Option Reason → AnswerText
  Atomic : ℕ → AnswerText
  AtomicRefused : List ℕ → Reason → AnswerText
  Finished : List ℕ → AnswerText
  Failed : Failure → AnswerText

pub record EntryText : Type 0 where
  pub connection : ℕ
  pub event : EventText
  pub answer : AnswerText

abbrev pub event_text : Event → EventText
event_text (events.Accept bytes) = Accepts bytes.items
event_text (events.Step k) = Steps k

abbrev pub answer_text : Answer → AnswerText
answer_text (answers.Replied bytes) = Replied bytes.items
answer_text (answers.Opened k) = Opened k
answer_text (answers.Checked n) = Checked n
answer_text answers.Migrated = Migrated
answer_text (answers.Updated name found) = Updated name.items found
answer_text (answers.Atomic n) = Atomic n
answer_text (answers.AtomicRefused name reason) = AtomicRefused name.items reason
answer_text (answers.Finished bytes) = Finished bytes.items
answer_text (answers.Failed f) = Failed f

abbrev pub entry_text : Entry → EntryText
entry_text e = record { connection = e.connection; event = event_text e.event; answer = answer_text e.answer }

-- ---- what the node's answers are in the log

-- the machine's answer to a call that failed so
abbrev pub failure_answer : Failure → MachineAnswer
failure_answer (NotOurs id) = Declined 90
failure_answer (Refused number) = Declined number
failure_answer (Fault fault) = Faulted (failure_of fault)

-- Of a wanted id that no ref reaches the id is kept, and of any other fault its number, or what it is of.
abbrev pub IsFailureOf : SharedFault → Failure → Type 0
IsFailureOf fault (NotOurs id) = fault ≡ shared.NotOurs id
IsFailureOf fault failure = (fault_answer fault ≡ failure_answer failure) × ((id : ObjectId) → fault ≢ shared.NotOurs id)

abbrev pub IsTaken : Result Accepted SharedFault → AnswerText → Type 0
IsTaken (Ok (accepted.Reply bytes)) answer = answer ≡ Replied bytes.items
IsTaken (Ok (accepted.Slot k)) answer = answer ≡ Opened k
IsTaken (Err fault) answer = (failure : Failure) × (answer ≡ Failed failure) × IsFailureOf fault failure

abbrev pub IsStepped : Result Stepped SharedFault → AnswerText → Type 0
IsStepped (Ok (stepped.Checked n)) answer = answer ≡ Checked n
IsStepped (Ok stepped.Migrated) answer = answer ≡ Migrated
IsStepped (Ok (stepped.Updated name found)) answer = answer ≡ Updated name.items found
IsStepped (Ok (stepped.Atomic n)) answer = answer ≡ Atomic n
IsStepped (Ok (stepped.AtomicRefused name reason)) answer = answer ≡ AtomicRefused name.items reason
IsStepped (Ok (stepped.Finished bytes)) answer = answer ≡ Finished bytes.items
IsStepped (Err fault) answer = (failure : Failure) × (answer ≡ Failed failure) × IsFailureOf fault failure
