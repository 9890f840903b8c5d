-- What a call of a clone says that sends or takes messages, or asks for a value: the machine's node that is held before it leads to
-- one that is held after it, by the machine's answer.
use Rattle.std.specs.Prelude.{◌≡◌, ◌⊎◌, ℕ, Bool, true, Option, Result, Ok, Err, Vec}
use Rattle.std.specs.Global.{Global}
use Rattle.vc_files.specs.FileMap.{FileMap}
use Rattle.vc_message.specs.AnyMessage.{MessageText}
use Rattle.vc_message.specs.Machine.{TextOf}
use Rattle.vc_rules.specs.Told.{Quietly}
use Rattle.vc_message.specs.Told.{SendsBytes}
use Rattle.vc_model.specs.Clone.{Awaited, CloneNode}
use Rattle.vc_model.specs.CloneCall.{CloneAnswers, CloneCall}
use Rattle.vc_model.specs.CloneCall.CloneCall.{Receive}
use Rattle.vc_model.specs.ExactWorld.{MayClone}
use Rattle.vc_model.specs.Message.{Message}
use Rattle.vc_model.specs.Node.{Answer}
use Rattle.vc_model.specs.Node.Answer.{Did}
use Rattle.vc_model.specs.Node.Reply.{Moved as MovedRefs, Reported as ReportedRefs}
use Rattle.vc_model.specs.Repository.{IsSound}
use Rattle.vc_values.proofs.GitLaws.{git_rules}
use Rattle.vc_rules.specs.Git.{git}
use Rattle.vc_node.specs.Awaited.{AwaitedText, IsAwaited, awaited_text}
use Rattle.vc_node.specs.CloneFaults.{fault_answer, up_after}
use Rattle.vc_local.specs.Machine.{HoldsNode}
use Rattle.vc_node.specs.declared.awaited.Awaited.{Awaited as Waiting}
use Rattle.vc_node.specs.declared.clone_fault.CloneFault.{CloneFault}
use Rattle.vc_node.specs.declared.exchanging.Received.{Received}
use Rattle.vc_node.specs.declared.exchanging.Received.TheVariants.{Send, Moved, Reported}

-- the machine's answer, as it is told, to the start of an exchange
abbrev pub SentAs : Result (Vec ℕ Global) CloneFault → Answer → Option Message → Type 0
SentAs (Ok bytes) a sends = SendsBytes bytes.items a sends
SentAs (Err e) a sends = Quietly (fault_answer e) a sends

-- to a message
abbrev pub ReceivedAs : Result Received CloneFault → Answer → Option Message → Type 0
ReceivedAs (Ok (Send bytes)) a sends = SendsBytes bytes.items a sends
ReceivedAs (Ok (Moved moved left)) a sends = Quietly (Did (MovedRefs moved left)) a sends
ReceivedAs (Ok (Reported moved refused)) a sends = Quietly (Did (ReportedRefs moved refused.items)) a sends
ReceivedAs (Err e) a sends = Quietly (fault_answer e) a sends

-- Whatever node was held, some node is held after the call; and if the node was sound, the answer and that node are the machine's.
pub record AnswersClone (call : CloneCall) (shows : Answer → Option Message → Type 0) (old new : FileMap) (waits after : AwaitedText) (was_up is_up : Bool) : Type 0 where
  pub each : (awaited : Awaited) (n : CloneNode) → IsAwaited waits awaited → HoldsNode old was_up awaited n
      → (left : Awaited) × (m : CloneNode) × (a : Answer) × (sends : Option Message) × IsAwaited after left × HoldsNode new is_up left m × shows a sends
      × (IsSound git n.repository → CloneAnswers git git_rules n call a m sends)

-- Whatever node was held: if it is sound the machine's call may write, or this holds.
abbrev pub MayOr : CloneCall → AwaitedText → Bool → FileMap → Type 0 → Type 0
MayOr call waits was_up old IsLook = (awaited : Awaited) (n : CloneNode) → IsAwaited waits awaited → HoldsNode old was_up awaited n → (IsSound git n.repository → MayClone git git_rules n call) ⊎ IsLook

-- of a node that is up, whatever state it is in then
abbrev pub AnswersUp : CloneCall → Result Received CloneFault → FileMap → FileMap → AwaitedText → AwaitedText → Type 0
AnswersUp call result old new waits after = (was_up is_up : Bool) → was_up ≡ true → is_up ≡ up_after result → AnswersClone call (ReceivedAs result) old new waits after was_up is_up

-- ---- over files, and what is awaited as it lies in memory

abbrev pub AnswersTaken : {F : Type 0} → (F → FileMap) → CloneCall → Result Received CloneFault → F → F → Waiting → Waiting → Type 0
AnswersTaken content call result old new awaited after = AnswersUp call result (content old) (content new) (awaited_text awaited) (awaited_text after)

abbrev pub MayTaken : {F : Type 0} → (F → FileMap) → CloneCall → F → Waiting → Type 0 → Type 0
MayTaken content call old awaited IsLook = MayOr call (awaited_text awaited) true (content old) IsLook

-- the message of this text is taken
abbrev pub TakesMessage : {F : Type 0} → (F → FileMap) → MessageText → Result Received CloneFault → F → F → Waiting → Waiting → Type 0
TakesMessage content text result old new awaited after = (m : Message) → TextOf m text → AnswersTaken content (Receive m) result old new awaited after

abbrev pub MayTake : {F : Type 0} → (F → FileMap) → MessageText → F → Waiting → Type 0 → Type 0
MayTake content text old awaited IsLook = (m : Message) → TextOf m text → MayTaken content (Receive m) old awaited IsLook
