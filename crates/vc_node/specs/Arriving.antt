-- A message that a reader brings to a clone, taken as it comes: what came of it, and what the clone makes of it.
use Rattle.std.specs.Prelude.{◌≡◌, ◌≢◌, ◌⊎◌, ⊤, ℕ, Bool, true, false, List, [], Option, Some, None, Result, Ok, Err, IfErr, IsErrOf, Vec}
use Rattle.std.specs.Global.{Global}
use Rattle.vc_exchange.specs.Deeds.{IsCutShort, IsReceived}
use Rattle.vc_tracking.specs.Moving.{Told, told_in}
use Rattle.vc_exchange.specs.Quarantined.{HoldsPack}
use Rattle.vc_exchange.specs.Receiving.{AreRefs, BlamesPack, awaited_pack}
use Rattle.vc_tracking.specs.declared.fault.ExchangeFault.{ExchangeFault}
use Rattle.vc_tracking.specs.declared.fault.ExchangeFault.TheVariants as exchange
use Rattle.vc_exchange.specs.declared.receiving.Moves.{Moves}
use Rattle.vc_fetch.specs.Pack.{PackText}
use Rattle.vc_files.specs.FileMap.{FileMap, SameOutside}
use Rattle.vc_files.specs.declared.faults.Fault.{Fault as FilesFault}
use Rattle.vc_files.specs.declared.faults.Fault.TheVariants.{Memory}
use Rattle.vc_message.specs.Coming.{Came, IsCome, TakesAll, TakesPart, a_message, cut_short, lost, no_message, nothing_came}
use Rattle.vc_message.specs.AnyMessage.{MessageText, a_pack, any_step, beginning}
use Rattle.vc_message.specs.Incoming.{TakesFault}
use Rattle.vc_message.specs.Machine.{IsPack, TextOf, pkt_number}
use Rattle.vc_message.specs.Source.{TellsLoss}
use Rattle.vc_message.specs.Streaming.{LeadsTo, TakesHead, of_pack, state_at}
use Rattle.vc_message.specs.declared.incoming_fault.IncomingFault.{IncomingFault}
use Rattle.vc_message.specs.declared.incoming_fault.IncomingFault.TheVariants as incoming
use Rattle.vc_message.specs.declared.streaming.Head.{Head}
use Rattle.vc_message.specs.declared.streaming.Taken.{Taken}
use Rattle.vc_model.specs.Clone.{Awaited, CloneNode}
use Rattle.vc_model.specs.Clone.Awaited.{Nothing}
use Rattle.vc_model.specs.CloneCall.{CloneCall}
use Rattle.vc_model.specs.CloneCall.CloneCall.{Asks, Open, Receive}
use Rattle.vc_model.specs.Message.{Message}
use Rattle.vc_model.specs.Node.{Answer}
use Rattle.vc_model.specs.Node.Reply.{Moved as MovedRefs}
use Rattle.vc_model.specs.Question.Question.{Unread as AsksUnread}
use Rattle.vc_model.specs.Refs.{Refs}
use Rattle.vc_model.specs.Repository.{Repository}
use Rattle.vc_object.specs.declared.id.ObjectId.{ObjectId}
use Rattle.vc_pkt.specs.ObjectStream.{between}
use Rattle.vc_pkt.specs.declared.fault.PktFault.{PktFault}
use Rattle.vc_rules.specs.OpenPushes.{HoldsContent}
use Rattle.vc_push_rules.specs.Quarantine.{quarantine_folder}
use Rattle.vc_node.specs.Awaited.{AwaitedText, IsAwaited, awaited_text}
use Rattle.vc_node.specs.CloneCalls.{AnswersClone, AnswersUp, ReceivedAs}
use Rattle.vc_node.specs.CloneFaults.{of_device, of_exchange}
use Rattle.vc_local.specs.Machine.{HoldsNode}
use Rattle.vc_node.specs.ReceiveFault.{ends_in_fault, is_fault, told_of, up_after}
use Rattle.vc_node.specs.Receipts.{IsRefusedMessage}
use Rattle.vc_node.specs.declared.awaited.Awaited.{Awaited as Waiting}
use Rattle.vc_node.specs.declared.clone_fault.CloneFault.{CloneFault}
use Rattle.vc_node.specs.declared.clone_fault.CloneFault.TheVariants as clone
use Rattle.vc_node.specs.declared.exchanging.Received.{Received}
use Rattle.vc_local.specs.declared.fault.NodeFault.TheVariants.{Down}
use Rattle.vc_node.specs.declared.receive_fault.ReceiveFault.{ReceiveFault}
use Rattle.vc_node.specs.declared.receive_fault.ReceiveFault.TheVariants.{Node, ReadFailed}

-- ---- a reader that fails
-- what a call of a clone tells of a reader that fails, and what it keeps if the reader failed
pub record KeepsAtLoss {S T : Type 0} (failed : S → ℕ) (can_fail : S → Type 0) (old new : S) (honest : Type 0) (result : Result T ReceiveFault) (Kept : Type 0) : Type 0 where
  pub failures : TellsLoss failed can_fail old new (IsErrOf result ReadFailed) (ends_in_fault result ≡ true)
  pub kept : honest → IfErr result (λ e. e ≡ ReadFailed → Kept)

-- ---- a message so far
-- of a pack what stands before its objects was taken, so many bytes and lines
abbrev pub BeginsPack : Option (List ℕ) → Option (List ℕ) → ℕ → ℕ → Option ObjectId → Type 0
BeginsPack before now place number ack = LeadsTo any_step beginning before now place number (state_at (of_pack ack []) between)

-- so it is from where the reader stood before the pack, or before any message, of which so much was taken
abbrev pub FromPack : Option (List ℕ) → Taken → (Option (List ℕ) → Type 0) → Type 0
FromPack now taken IsSo = (before : Option (List ℕ)) (ack : Option ObjectId) → BeginsPack before now taken.bytes taken.lines ack → IsSo before

abbrev pub FromStart : Option (List ℕ) → Head → Taken → (Option (List ℕ) → Type 0) → Type 0
FromStart now head taken IsSo = (before : Option (List ℕ)) → TakesHead before now head taken.bytes taken.lines → IsSo before

-- why it didn't all come: the bytes are no message, the reader failed, or the node did
pub data IsStopped (before new : Option (List ℕ)) (e : ReceiveFault) : Type 0 where
  by_bytes : (fault : PktFault) → TakesFault any_step beginning before new fault → e ≡ Node (clone.Unread fault) → IsStopped before new e
  by_reader : TakesPart before new → e ≡ ReadFailed → IsStopped before new e
  by_node : TakesPart before new → (fault : FilesFault) → e ≡ Node (of_device fault) → IsStopped before new e

-- ---- a pack
-- All of the pack came, and what it brings stands in the quarantine under these names.
pub record Arrives (honest : Type 0) (before new : Option (List ℕ)) (content : FileMap) (names : List ObjectId) : Type 0 where
  pub pack : PackText
  pub taken : TakesAll before new (a_pack pack)
  pub holds : honest → HoldsPack content names pack

-- All of the pack came, and over a sound repository it is received as the machine's clone receives it.
pub record IsPackTaken (honest : Type 0) (before new : Option (List ℕ)) (old content : FileMap) (wants : List ObjectId) (told : List Told) (moves : Moves) : Type 0 where
  pub pack : PackText
  pub taken : TakesAll before new (a_pack pack)
  pub received : honest → (r : Repository) → HoldsContent old r → (m : Message) → IsPack m pack → (refs : Refs) → AreRefs refs told → IsReceived r (awaited_pack wants refs) m content Nothing None (MovedRefs moves.moved moves.left)

-- All of the pack came, and this ends what is made of it: a refusal for want of an object leaves all but the quarantine as it was,
-- and a fault some of it done.
pub record IsPackEnded (honest : Type 0) (before new : Option (List ℕ)) (old content : FileMap) (wants : List ObjectId) (told : List Told) (fault : ExchangeFault) : Type 0 where
  pub pack : PackText
  pub taken : TakesAll before new (a_pack pack)
  pub blames : honest → (m : Message) → IsPack m pack → BlamesPack old wants m fault
  pub same : honest → (id : ObjectId) → fault ≡ exchange.Incomplete id → SameOutside (quarantine_folder 0) old content
  pub cut : honest → (r : Repository) → HoldsContent old r → (m : Message) → IsPack m pack → (refs : Refs) → AreRefs refs told → IsCutShort r (awaited_pack wants refs) m content

-- why a pack is not taken: it didn't all come, and all but the quarantine is as it was; or it did, and an exchange's fault ends it
pub data IsPackLeft (honest : Type 0) (before new : Option (List ℕ)) (old content : FileMap) (wants : List ObjectId) (told : List Told) (e : ReceiveFault) : Type 0 where
  not_all : IsStopped before new e → (honest → SameOutside (quarantine_folder 0) old content) → IsPackLeft honest before new old content wants told e
  all_of_it : (fault : ExchangeFault) → e ≡ Node (of_exchange fault) → IsPackEnded honest before new old content wants told fault → IsPackLeft honest before new old content wants told e

-- the same over files
abbrev pub TakesPack : {F : Type 0} → Type 0 → (F → FileMap) → Option (List ℕ) → F → F → List ObjectId → List (Vec ℕ Global × ObjectId) → Moves → Option (List ℕ) → Type 0
TakesPack honest content rest old new wants told moves before = IsPackTaken honest before rest (content old) (content new) wants (told_in told) moves

abbrev pub LeavesPack : {F : Type 0} → Type 0 → (F → FileMap) → Option (List ℕ) → F → F → List ObjectId → List (Vec ℕ Global × ObjectId) → ReceiveFault → Option (List ℕ) → Type 0
LeavesPack honest content rest old new wants told e before = IsPackLeft honest before rest (content old) (content new) wants (told_in told) e

-- ---- any message
-- What a clone that is up makes of a message: it came whole, and is refused for its causes and answered as the machine answers it;
-- or it didn't, and all but the quarantine is as it was.
pub data ComesTo (honest : Type 0) (before new : Option (List ℕ)) (old content : FileMap) (waits after : AwaitedText) (result : Result Received ReceiveFault) : Type 0 where
  whole : (text : MessageText) → TakesAll before new text → (told : Result Received CloneFault) → result ≡ told_of told → (honest → IfErr told (IsRefusedMessage old waits text))
      → (honest → (m : Message) → TextOf m text → AnswersUp (Receive m) told old content waits after) → ComesTo honest before new old content waits after result
  stopped : (e : ReceiveFault) → result ≡ Err e → IsStopped before new e → (honest → SameOutside (quarantine_folder 0) old content) → after ≡ waits → ComesTo honest before new old content waits after result

-- the same over files, and what is awaited as it lies in memory
abbrev pub Comes : {F : Type 0} → Type 0 → (F → FileMap) → Option (List ℕ) → F → F → Waiting → Waiting → Result Received ReceiveFault → Option (List ℕ) → Type 0
Comes honest content rest old new awaited after result before = ComesTo honest before rest (content old) (content new) (awaited_text awaited) (awaited_text after) result

-- The calls of the machine that the event can be. A fault of the node comes before it is known which message it is.
abbrev pub IsCallOf : Bool → Came → CloneCall → Type 0
IsCallOf was_up (a_message text) call = (m : Message) × TextOf m text × (call ≡ Receive m)
IsCallOf was_up (no_message fault) call = call ≡ Asks (AsksUnread (pkt_number fault))
IsCallOf true cut_short call = call ≢ Open
IsCallOf was_up _ call = ⊥

-- what is told of it, by a node that is up, or down
abbrev pub IsTold : Bool → Came → Result (Option Received) ReceiveFault → Type 0
IsTold true (a_message text) (Ok (Some received)) = ⊤
IsTold true (a_message text) (Err (Node e)) = ⊤
IsTold true (no_message fault) (Err (Node e)) = e ≡ clone.Unread fault
IsTold true cut_short (Err (Node e)) = (fault : FilesFault) × (e ≡ of_device fault)
IsTold false (a_message text) (Err (Node e)) = e ≡ clone.Node Down
IsTold false (no_message fault) (Err (Node e)) = e ≡ clone.Node Down
IsTold false cut_short (Err (Node e)) = e ≡ of_device Memory
IsTold was_up nothing_came (Ok None) = ⊤
IsTold was_up lost (Err ReadFailed) = ⊤
IsTold was_up _ _ = ⊥

-- why a message is refused by a node that is up
abbrev pub IsRefusedThere : Came → FileMap → AwaitedText → Result (Option Received) ReceiveFault → Type 0
IsRefusedThere (a_message text) content waits (Err (Node e)) = IsRefusedMessage content waits text e
IsRefusedThere _ content waits _ = ⊤

-- the machine's answer to it
abbrev pub ToldAs : Result (Option Received) ReceiveFault → Answer → Option Message → Type 0
ToldAs (Ok (Some received)) a sends = ReceivedAs (Ok received) a sends
ToldAs (Err (Node e)) a sends = ReceivedAs (Err e) a sends
ToldAs _ a sends = ⊥

-- whatever node was held is held, and awaits the same
abbrev pub KeepsHeld : FileMap → FileMap → AwaitedText → AwaitedText → Bool → Bool → Type 0
KeepsHeld old new waits after was_up is_up = (awaited : Awaited) (n : CloneNode) → IsAwaited waits awaited → HoldsNode old was_up awaited n → IsAwaited after awaited × HoldsNode new is_up awaited n

-- A message was taken of the reader, or not, and what is told of it is the machine's answer to the call that it is.
pub record ReceivesFrom (honest : Type 0) (before rest : Option (List ℕ)) (old new : FileMap) (waits after : AwaitedText) (was_up is_up : Bool) (result : Result (Option Received) ReceiveFault) : Type 0 where
  pub came : Came
  pub is_come : IsCome before rest came
  pub told : IsTold was_up came result
  pub refused : honest → was_up ≡ true → IsRefusedThere came old waits result
  pub answers : honest → (call : CloneCall) → IsCallOf was_up came call → AnswersClone call (ToldAs result) old new waits after was_up is_up

-- the same of a node that is up
abbrev pub ReceivesUp : Type 0 → Option (List ℕ) → Option (List ℕ) → FileMap → FileMap → AwaitedText → AwaitedText → Result (Option Received) ReceiveFault → Type 0
ReceivesUp honest before rest old new waits after result = (is_up : Bool) → is_up ≡ up_after result → ReceivesFrom honest before rest old new waits after true is_up result

-- what is told of a message, once some of it has come
abbrev pub some_told : Result Received ReceiveFault → Result (Option Received) ReceiveFault
some_told (Ok received) = Ok (Some received)
some_told (Err e) = Err e

-- what a node that is down tells of what came
abbrev pub down_told : Result (Option (Unit {0})) IncomingFault → Result (Option Received) ReceiveFault
down_told (Ok (Some u)) = Err (Node (clone.Node Down))
down_told (Ok None) = Ok None
down_told (Err incoming.Failed) = Err ReadFailed
down_told (Err incoming.Memory) = Err (Node (of_device Memory))
down_told (Err (incoming.Unread fault)) = Err (Node (clone.Node Down))

-- If a message is the first that the reader has, what is told is the machine's answer to it, and what comes after it is left; or the
-- reader failed, or a fault came.
abbrev pub IsKnown : Type 0 → Bool → Message → List ℕ → Option (List ℕ) → (CloneCall → Type 0) → Result (Option Received) ReceiveFault → Type 0
IsKnown honest was_up m rest left Answers (Ok (Some received)) = (left ≡ Some rest) × (honest → Answers (Receive m))
IsKnown honest was_up m rest left Answers (Ok None) = ⊥
IsKnown honest was_up m rest left Answers (Err ReadFailed) = ⊤
IsKnown honest was_up m rest left Answers (Err (Node e)) =
    ((left ≡ Some rest) ⊎ (is_fault (Node e) ≡ true)) × (honest → (was_up ≡ true) ⊎ (is_fault (Node e) ≡ false) → Answers (Receive m))
