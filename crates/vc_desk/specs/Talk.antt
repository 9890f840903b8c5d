-- What a connection's worker did: what it took of its reader, its receipts, and what it wrote.
use Rattle.std.specs.Prelude.{◌≡◌, ◌⊎◌, ⊤, ℕ, Bool, true, false, List, [], ◌∷◌, ◌++◌, Option, Some, None, Result, option_map, IfOk, IfSome}
use Rattle.std.specs.Io.KnownBytes.{Appends}
use Rattle.std.specs.declared.alloc.AllocError.{AllocError}
use Rattle.vc_files.specs.declared.faults.Fault.TheVariants.{Memory}
use Rattle.vc_server.specs.Telling.{error_bytes}
use Rattle.vc_message.specs.Incoming.{TakesNothing}
use Rattle.vc_message.specs.Keeping.{KeepsMessage, KeepsNone}
use Rattle.vc_message.specs.Machine.{pkt_number}
use Rattle.vc_shared.specs.declared.fault.SharedFault.TheVariants as shared
use Rattle.vc_message.specs.declared.incoming_fault.IncomingFault.{IncomingFault}
use Rattle.vc_message.specs.declared.incoming_fault.IncomingFault.TheVariants as incoming
use Rattle.vc_desk.specs.Entry.{AnswerText, EntryText, EventText, entry_text, event_text}
use Rattle.vc_desk.specs.Entry.AnswerText.{Replied, Opened, Finished, Failed}
use Rattle.vc_desk.specs.Entry.EventText.{Accepts, Steps}
use Rattle.vc_desk.specs.declared.entry.Failure.{Failure}
use Rattle.vc_desk.specs.declared.entry.Failure.TheVariants.{Fault, NotOurs, Refused}
use Rattle.vc_desk.specs.declared.locked.Receipt.{Receipt}
use Rattle.vc_desk.specs.declared.work.Ended.{Ended}
use Rattle.vc_desk.specs.declared.work.Ended.TheVariants as ended
use Rattle.vc_desk.specs.declared.work.Next.{Next}
use Rattle.vc_desk.specs.declared.work.Next.TheVariants.{Goes, Stops}

-- ---- receipts

pub record ReceiptText : Type 0 where
  pub place : ℕ
  pub entry : Option EntryText

abbrev pub receipt_text : Receipt → ReceiptText
receipt_text r = record { place = r.place; entry = option_map entry_text r.entry }

-- the receipt of an event of this connection, with its answer if it was copied
abbrev pub receipt_of : ℕ → ℕ → EventText → Option AnswerText → ReceiptText
receipt_of name place event answer = record { place = place; entry = option_map (λ a. record { connection = name; event = event; answer = a }) answer }

-- the receipt's entry is of this connection and event
abbrev pub IsOf : ℕ → EventText → Result Receipt AllocError → Type 0
IsOf name event took = IfOk took (λ receipt. IfSome receipt.entry (λ entry. (entry.connection ≡ name) × (event_text entry.event ≡ event)))

-- ---- what came

-- the bytes of a message, nothing, or why no message
pub data Came : Type 0 where
  a_message : List ℕ → Came
  nothing_came : Came
  no_message : IncomingFault → Came

-- It came of the reader, which failed only if it can.
abbrev pub IsCome : ℕ → Type 0 → Option (List ℕ) → Option (List ℕ) → Came → Type 0
IsCome limit CanFail before rest (a_message bytes) = KeepsMessage limit before rest bytes
IsCome limit CanFail before rest nothing_came = TakesNothing before rest
IsCome limit CanFail before rest (no_message fault) = KeepsNone limit before rest fault × (fault ≡ incoming.Failed → CanFail)

-- the slot of the push that is stepped next, after an answer
abbrev pub opened : Option ℕ → AnswerText → Option ℕ
opened current (Opened k) = Some k
opened current (Replied bytes) = None
opened current (Finished bytes) = None
opened current (Failed failure) = None
opened current _ = current

-- the event that comes next: a step of the current push, or else the next message of the reader
abbrev pub IsNext : ℕ → Type 0 → Option ℕ → Option (List ℕ) → Option (List ℕ) → EventText → Type 0
IsNext limit CanFail None before rest (Accepts bytes) = IsCome limit CanFail before rest (a_message bytes)
IsNext limit CanFail (Some k) before rest (Steps j) = (j ≡ k) × (rest ≡ before)
IsNext limit CanFail _ before rest event = ⊥

-- ---- what is written

-- what is written of an answer after which the connection goes on
abbrev pub told : AnswerText → List ℕ
told (Replied bytes) = bytes
told (Finished bytes) = bytes
told _ = []

abbrev pub goes_on : AnswerText → Bool
goes_on (Failed failure) = false
goes_on _ = true

-- The line of an Error goes out, and the connection ends; or there is no memory for the line, and nothing goes out; or the writer failed.
abbrev pub Refuses : List ℕ → ℕ → Option (List ℕ) → Option (List ℕ) → Next → Type 0
Refuses line number old new (Stops (ended.Refused k)) = (k ≡ number) × Appends old new line
Refuses line number old new (Stops (ended.Fault fault)) = (fault ≡ Memory) × (new ≡ old)
Refuses line number old new (Stops ended.WriteFailed) = ⊤
Refuses line number old new next = ⊥

-- A refusal is told by its Error. Of a fault nothing is written. The connection ends.
abbrev pub TellsFailure : Failure → Option (List ℕ) → Option (List ℕ) → Next → Type 0
TellsFailure (NotOurs id) old new next = Refuses (error_bytes (shared.NotOurs id) 90) 90 old new next
TellsFailure (Refused number) old new next = Refuses (error_bytes shared.Busy number) number old new next
TellsFailure (Fault fault) old new next = (next ≡ Stops (ended.Fault fault)) × (new ≡ old)

-- the bytes went out, and it goes on so, or the writer failed
abbrev pub Writes : Option ℕ → Option (List ℕ) → Option (List ℕ) → List ℕ → Next → Type 0
Writes next old new bytes (Goes slot) = (slot ≡ next) × Appends old new bytes
Writes next old new bytes (Stops how) = how ≡ ended.WriteFailed

-- What is written of an answer, and what comes next. If there was no memory to copy the answer, nothing is written.
abbrev pub Tells : Option ℕ → Option AnswerText → Option (List ℕ) → Option (List ℕ) → Next → Type 0
Tells current (Some (Failed failure)) old new next = TellsFailure failure old new next
Tells current (Some answer) old new next = Writes (opened current answer) old new (told answer) next
Tells current None old new next = (next ≡ Stops (ended.Fault Memory)) × (new ≡ old)

-- how a connection ends on which no message came
abbrev pub Closes : Came → Option (List ℕ) → Option (List ℕ) → Next → Type 0
Closes (a_message bytes) old new next = ⊥
Closes nothing_came old new next = (next ≡ Stops ended.End) × (new ≡ old)
Closes (no_message (incoming.Unread fault)) old new next = Refuses (error_bytes shared.Busy (pkt_number fault)) (pkt_number fault) old new next
Closes (no_message incoming.Failed) old new next = (next ≡ Stops ended.ReadFailed) × (new ≡ old)
Closes (no_message incoming.Memory) old new next = (next ≡ Stops (ended.Fault Memory)) × (new ≡ old)

-- one receipt more, of the event, and its answer is told; or there was no memory, and nothing was done
abbrev pub Settles : ℕ → Option ℕ → EventText → Option (List ℕ) → Option (List ℕ) → List ReceiptText → List ReceiptText → Next → Type 0
Settles name current event old new rs after next =
    ((after ≡ rs) × (next ≡ Stops (ended.Fault Memory)) × (new ≡ old))
    ⊎ ((place : ℕ) × (answer : Option AnswerText) × (after ≡ rs ++ receipt_of name place event answer ∷ []) × Tells current answer old new next)

-- ---- turn by turn

-- One turn: one event of the node, with its receipt; or none.
pub data Turns (limit : ℕ) (CanFail : Type 0) (name : ℕ) (current : Option ℕ) (before rest old new : Option (List ℕ)) (rs after : List ReceiptText) (next : Next) : Type 0 where
  no_room : after ≡ rs → next ≡ Stops (ended.Fault Memory) → new ≡ old → Turns limit CanFail name current before rest old new rs after next
  closes : (came : Came) → current ≡ None → IsCome limit CanFail before rest came → after ≡ rs → Closes came old new next → Turns limit CanFail name current before rest old new rs after next
  made : (place : ℕ) (event : EventText) (answer : Option AnswerText) → IsNext limit CanFail current before rest event → after ≡ rs ++ receipt_of name place event answer ∷ [] → Tells current answer old new next
      → Turns limit CanFail name current before rest old new rs after next

-- What came so far, each open push followed by its steps, with the receipts and with what was written.
pub data Talk (limit : ℕ) (CanFail : Type 0) (name : ℕ) (before : Option (List ℕ)) : List ReceiptText → Option (List ℕ) → Option ℕ → List ℕ → Type 0 where
  begun : Talk limit CanFail name before [] before None []
  then : {rs : List ReceiptText} {mid : Option (List ℕ)} {rest : Option (List ℕ)} {current : Option ℕ} {out : List ℕ} (place : ℕ) (event : EventText) (answer : AnswerText)
      → Talk limit CanFail name before rs mid current out → IsNext limit CanFail current mid rest event → goes_on answer ≡ true
      → Talk limit CanFail name before (rs ++ receipt_of name place event (Some answer) ∷ []) rest (opened current answer) (out ++ told answer)

-- The connection was served: so many turns, and then one that ended it.
pub record Ends (limit : ℕ) (CanFail : Type 0) (name : ℕ) (before old new : Option (List ℕ)) (after : List ReceiptText) (how : Ended) : Type 0 where
  pub rs : List ReceiptText
  pub mid : Option (List ℕ)
  pub rest : Option (List ℕ)
  pub written : Option (List ℕ)
  pub current : Option ℕ
  pub out : List ℕ
  pub talk : Talk limit CanFail name before rs mid current out
  pub wrote : Appends old written out
  pub last : Turns limit CanFail name current mid rest written new rs after (Stops how)
