-- A message that a reader brings to the shared node, taken as it comes: what came of it, and what the node makes of it.
use Rattle.std.specs.Prelude.{◌≡◌, ◌≢◌, ◌⊎◌, ⊤, ℕ, Bool, true, false, List, [], Option, Some, None, Result, Ok, Err, IfErr, IsErrOf}
use Rattle.vc_files.specs.FileMap.{FileMap}
use Rattle.vc_files.specs.declared.faults.Fault.{Fault as FilesFault}
use Rattle.vc_files.specs.declared.faults.Fault.TheVariants.{Memory}
use Rattle.vc_message.specs.Coming.{Came, IsCome, TakesAll, TakesPart, a_message, cut_short, lost, no_message, nothing_came}
use Rattle.vc_message.specs.AnyMessage.{a_push, any_step, beginning}
use Rattle.vc_message.specs.Incoming.{TakesFault}
use Rattle.vc_message.specs.Machine.{FirstRead, TextOf, pkt_number}
use Rattle.vc_message.specs.Streaming.{LeadsTo, of_push, state_at}
use Rattle.vc_message.specs.declared.incoming_fault.IncomingFault.{IncomingFault}
use Rattle.vc_message.specs.declared.incoming_fault.IncomingFault.TheVariants as incoming
use Rattle.vc_message.specs.declared.streaming.Taken.{Taken}
use Rattle.vc_model.specs.Message.{Message}
use Rattle.vc_model.specs.Node.{Answer}
use Rattle.vc_model.specs.Question.Question.{Unread as AsksUnread}
use Rattle.vc_model.specs.Shared.{SharedNode}
use Rattle.vc_model.specs.SharedCall.{SharedCall}
use Rattle.vc_model.specs.SharedCall.SharedCall.{Accept, Asks, Open}
use Rattle.vc_message.specs.Source.{TellsLoss}
use Rattle.vc_local.specs.declared.fault.NodeFault.TheVariants.{Down}
use Rattle.vc_object.specs.declared.fault.ObjectFault.{ObjectFault}
use Rattle.vc_pkt.specs.ObjectStream.{between}
use Rattle.vc_pkt.specs.declared.fault.PktFault.{PktFault}
use Rattle.vc_push.specs.Push.{FaultOf, HeadText, PushText}
use Rattle.vc_push_rules.specs.Carrying.{Carries, objects_of_push}
use Rattle.vc_push_rules.specs.Quarantine.{IsDropped}
use Rattle.vc_push_rules.specs.Session.{SessionText}
use Rattle.vc_push_rules.specs.Steps.{IsOpened}
use Rattle.vc_shared.specs.AcceptFault.{ends_in_fault, is_fault, up_after}
use Rattle.vc_shared.specs.Accepting.{IsAnsweredMessage, IsRefusedMessage}
use Rattle.vc_shared.specs.Calls.{AcceptedAs, AnswersShared}
use Rattle.vc_shared.specs.Faults.{of_device}
use Rattle.vc_shared.specs.Holding.{HoldsShared}
use Rattle.vc_shared.specs.Pushing.{AreTaken, IsLowest, OpensSlot}
use Rattle.vc_shared.specs.declared.accept_fault.AcceptFault.{AcceptFault}
use Rattle.vc_shared.specs.declared.accept_fault.AcceptFault.TheVariants.{Node, ReadFailed}
use Rattle.vc_shared.specs.declared.accepting.Accepted.{Accepted}
use Rattle.vc_shared.specs.declared.accepting.Accepted.TheVariants.{Slot}
use Rattle.vc_shared.specs.declared.fault.SharedFault.{SharedFault}
use Rattle.vc_shared.specs.declared.fault.SharedFault.TheVariants as shared

-- ---- a reader that fails
-- what a call tells of a reader that fails, and what the node keeps then
pub record KeepsAtLoss {S T : Type 0} (failed : S → ℕ) (can_fail : S → Type 0) (old new : S) (honest : Type 0) (result : Result T AcceptFault) (Kept : Type 0) : Type 0 where
  pub failures : TellsLoss failed can_fail old new (IsErrOf result ReadFailed) (ends_in_fault result ≡ true)
  pub kept : honest → IfErr result (λ e. e ≡ ReadFailed → Kept)

-- ---- a push
-- of a push that asks for this what stands before its objects was taken, so many bytes and lines
abbrev pub BeginsPush : Option (List ℕ) → Option (List ℕ) → ℕ → ℕ → HeadText → Type 0
BeginsPush before now place number head = LeadsTo any_step beginning before now place number (state_at (of_push head (Ok [])) between)

-- so it is, whatever the reader had before
abbrev pub FromHead : Option (List ℕ) → Taken → HeadText → (Option (List ℕ) → Type 0) → Type 0
FromHead now taken head Holds = (before : Option (List ℕ)) → BeginsPush before now taken.bytes taken.lines head → Holds before

-- All of the push came. The session has its commands, and what it carries stands in the slot's quarantine.
pub record Arrives (honest : Type 0) (before new : Option (List ℕ)) (content : FileMap) (slot : ℕ) (s : SessionText) : Type 0 where
  pub push : PushText
  pub taken : TakesAll before new (a_push push)
  pub fault : Option ObjectFault
  pub fault_is : honest → FaultOf push.carried fault
  pub opened : IsOpened slot fault push.atomic push.commands s
  pub carries : honest → Carries content slot s.names (objects_of_push push.carried)

-- the same, of what the reader had before as the last: so a clause says it of each
abbrev pub ArrivesIn : Type 0 → Option (List ℕ) → FileMap → ℕ → SessionText → Option (List ℕ) → Type 0
ArrivesIn honest new content slot s before = Arrives honest before new content slot s

-- why it didn't all come: the bytes are no message, the reader failed, or the node did
pub data IsStopped (before new : Option (List ℕ)) (e : AcceptFault) : Type 0 where
  by_bytes : (fault : PktFault) → TakesFault any_step beginning before new fault → e ≡ Node (shared.Unread fault) → IsStopped before new e
  by_reader : TakesPart before new → e ≡ ReadFailed → IsStopped before new e
  by_node : TakesPart before new → (fault : FilesFault) → e ≡ Node (of_device fault) → IsStopped before new e

-- All of the push came, and it is open in this slot.
pub record OpensFrom (honest : Type 0) (before new : Option (List ℕ)) (content : FileMap) (slots after : List (Option SessionText)) (k : ℕ) : Type 0 where
  pub push : PushText
  pub taken : TakesAll before new (a_push push)
  pub opens : honest → OpensSlot content slots after push k

-- the same, of what the reader had before as the last
abbrev pub OpensIn : Type 0 → Option (List ℕ) → FileMap → List (Option SessionText) → List (Option SessionText) → ℕ → Option (List ℕ) → Type 0
OpensIn honest new content slots after k before = OpensFrom honest before new content slots after k

-- why none is opened: it didn't all come, or it did, and all slots are taken
pub data IsTurnedAway (before new : Option (List ℕ)) (slots : List (Option SessionText)) (e : AcceptFault) : Type 0 where
  stopped : IsStopped before new e → IsTurnedAway before new slots e
  busy : (push : PushText) → TakesAll before new (a_push push) → AreTaken slots → e ≡ Node shared.Busy → IsTurnedAway before new slots e

-- so it is of a reader that had any bytes before it, and what is told of one that fails
pub record RefusesPush {S : Type 0} (remaining : S → Option (List ℕ)) (failed : S → ℕ) (can_fail : S → Type 0) (old new : S) (taken : Taken) (head : HeadText) (slots : List (Option SessionText)) (result : Result ℕ AcceptFault) : Type 0 where
  pub failures : TellsLoss failed can_fail old new (IsErrOf result ReadFailed) (ends_in_fault result ≡ true)
  pub why : IfErr result (λ e. FromHead (remaining old) taken head (λ before. IsTurnedAway before (remaining new) slots e))

-- after a refusal nothing stands in the quarantine of the lowest free slot
abbrev pub IsCleared : FileMap → List (Option SessionText) → AcceptFault → Type 0
IsCleared content slots e = is_fault e ≡ false → (k : ℕ) → IsLowest slots k → IsDropped k content

-- ---- any message
-- what is told of a push
abbrev pub slot_told : Result ℕ AcceptFault → Result (Option Accepted) AcceptFault
slot_told (Ok k) = Ok (Some (Slot k))
slot_told (Err e) = Err e

-- The calls of the machine that the event can be. A fault of the node comes before it is known which message it is.
abbrev pub IsCallOf : Bool → Came → SharedCall → Type 0
IsCallOf was_up (a_message text) call = (m : Message) × TextOf m text × (call ≡ Accept m)
IsCallOf was_up (no_message fault) call = call ≡ Asks (AsksUnread (pkt_number fault))
IsCallOf true cut_short call = call ≢ Open
IsCallOf was_up _ call = ⊥

-- what is told of it, by a node that is up, or down
abbrev pub IsTold : {T : Type 0} → Bool → Came → Result (Option T) AcceptFault → Type 0
IsTold true (a_message text) (Ok (Some told)) = ⊤
IsTold true (a_message text) (Err (Node e)) = ⊤
IsTold true (no_message fault) (Err (Node e)) = e ≡ shared.Unread fault
IsTold true cut_short (Err (Node e)) = (fault : FilesFault) × (e ≡ of_device fault)
IsTold false (a_message text) (Err (Node e)) = e ≡ shared.Node Down
IsTold false (no_message fault) (Err (Node e)) = e ≡ shared.Node Down
IsTold false cut_short (Err (Node e)) = e ≡ of_device Memory
IsTold was_up nothing_came (Ok None) = ⊤
IsTold was_up lost (Err ReadFailed) = ⊤
IsTold was_up _ _ = ⊥

-- why a message is refused by a node that is up
abbrev pub IsRefusedThere : Came → FileMap → List (Option SessionText) → Result (Option Accepted) AcceptFault → Type 0
IsRefusedThere (a_message text) content slots (Err (Node e)) = IsRefusedMessage content slots text e
IsRefusedThere _ content slots _ = ⊤

-- what a message is answered, over any files
abbrev pub IsAnsweredThere : Came → (old new : FileMap) → (slots after : List (Option SessionText)) → Result (Option Accepted) AcceptFault → Type 0
IsAnsweredThere (a_message text) old new slots after (Ok (Some accepted)) = IsAnsweredMessage old new slots after text accepted
IsAnsweredThere _ old new slots after _ = ⊤

-- the machine's answer to it
abbrev pub ToldAs : Result (Option Accepted) AcceptFault → Answer → Option Message → Type 0
ToldAs (Ok (Some accepted)) a sends = AcceptedAs (Ok accepted) a sends
ToldAs (Err (Node e)) a sends = AcceptedAs (Err e) a sends
ToldAs _ a sends = ⊥

-- A message was taken of the reader, or not, and what is told of it is the machine's answer to the call that it is.
pub record AcceptsFrom (honest : Type 0) (before rest : Option (List ℕ)) (old new : FileMap) (slots after : List (Option SessionText)) (was_up is_up : Bool) (result : Result (Option Accepted) AcceptFault) : Type 0 where
  pub came : Came
  pub is_come : IsCome before rest came
  pub told : IsTold was_up came result
  pub refused : honest → was_up ≡ true → IsRefusedThere came old slots result
  pub answered : honest → IsAnsweredThere came old new slots after result
  pub answers : honest → (call : SharedCall) → IsCallOf was_up came call → AnswersShared call (ToldAs result) old new slots after was_up is_up

-- the same of a node that is up
abbrev pub AcceptsUp : Type 0 → Option (List ℕ) → Option (List ℕ) → FileMap → FileMap → List (Option SessionText) → List (Option SessionText) → Result (Option Accepted) AcceptFault → Type 0
AcceptsUp honest before rest old new slots after result = (is_up : Bool) → is_up ≡ up_after result → AcceptsFrom honest before rest old new slots after true is_up result

-- whatever node was held is held
abbrev pub KeepsHeld : FileMap → FileMap → List (Option SessionText) → List (Option SessionText) → Bool → Bool → Type 0
KeepsHeld old new slots after was_up is_up = (n : SharedNode) → HoldsShared old slots was_up n → HoldsShared new after is_up n

-- what is told of a message that came whole
abbrev pub message_told : Result Accepted SharedFault → Result (Option Accepted) AcceptFault
message_told (Ok accepted) = Ok (Some accepted)
message_told (Err e) = Err (Node e)

-- what a node that is down tells of what came
abbrev pub down_told : Result (Option (Unit {0})) IncomingFault → Result (Option Accepted) AcceptFault
down_told (Ok (Some u)) = Err (Node (shared.Node Down))
down_told (Ok None) = Ok None
down_told (Err incoming.Failed) = Err ReadFailed
down_told (Err incoming.Memory) = Err (Node (of_device Memory))
down_told (Err (incoming.Unread fault)) = Err (Node (shared.Node Down))

-- Where a message is the first that the reader has, what is told is the machine's answer to it, and what is behind it is left; or the
-- reader failed, or a fault came.
abbrev pub IsKnown : {T : Type 0} → Type 0 → Bool → Message → List ℕ → Option (List ℕ) → (SharedCall → Type 0) → Result (Option T) AcceptFault → Type 0
IsKnown honest was_up m rest left Answers (Ok (Some told)) = (left ≡ Some rest) × (honest → Answers (Accept m))
IsKnown honest was_up m rest left Answers (Ok None) = ⊥
IsKnown honest was_up m rest left Answers (Err ReadFailed) = ⊤
IsKnown honest was_up m rest left Answers (Err (Node e)) =
    ((left ≡ Some rest) ⊎ (is_fault (Node e) ≡ true)) × (honest → (was_up ≡ true) ⊎ (is_fault (Node e) ≡ false) → Answers (Accept m))

-- so it is of each message that may stand there
abbrev pub AnswersKnown : Type 0 → Option (List ℕ) → Option (List ℕ) → FileMap → FileMap → List (Option SessionText) → List (Option SessionText) → Bool → Bool → Result (Option Accepted) AcceptFault → Type 0
AnswersKnown honest before left old new slots after was_up is_up result = FirstRead before (λ m rest. IsKnown honest was_up m rest left (λ call. AnswersShared call (ToldAs result) old new slots after was_up is_up) result)
