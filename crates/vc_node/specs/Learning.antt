-- What a clone has learnt of the generations of commits, once it has taken a message.
use Rattle.std.specs.Prelude.{◌≡◌, ◌≢◌, ◌⊎◌, ℕ, Bool, true, List, Option, Some, None, Contains, Result, Ok, Err, IfNone, IfOk, OnErr}
use Rattle.vc_exchange.specs.Learning.{LearnsJudging}
use Rattle.vc_files.specs.FileMap.{FileMap}
use Rattle.vc_history.specs.Numbering.{numbers}
use Rattle.vc_history.specs.Stored.{AgreesIn}
use Rattle.vc_object.specs.declared.id.ObjectId.{ObjectId}
use Rattle.vc_refs.specs.Refs.{refs}
use Rattle.vc_quarantine.specs.Learning.{IsOfWhole, Learnt}
use Rattle.vc_node.specs.Awaited.{AwaitedText, awaited_text}
use Rattle.vc_node.specs.CloneFaults.{up_after}
use Rattle.vc_node.specs.ReceiveFault.{up_after as receive_up_after}
use Rattle.vc_node.specs.declared.awaited.Awaited.{Awaited as Waiting}
use Rattle.vc_node.specs.declared.clone_fault.CloneFault.{CloneFault}
use Rattle.vc_node.specs.declared.exchanging.Received.{Received}
use Rattle.vc_node.specs.declared.receive_fault.ReceiveFault.{ReceiveFault}

-- no ref has changed, and what is learnt is what was
pub record LearnsNothing (old new : FileMap) (known now : Learnt) : Type 0 where
  pub stayed : refs new ≡ refs old
  pub same : now ≡ known

-- A message that is taken was judged: what was due is learnt, and the values that refs were set to are due. One that is refused may
-- be refused before that.
abbrev pub LearnsFrom : {T E : Type 0} → Result T E → FileMap → FileMap → Learnt → Learnt → Type 0
LearnsFrom (Ok x) old new known now = LearnsJudging old new known now
LearnsFrom (Err e) old new known now = LearnsJudging old new known now ⊎ LearnsNothing old new known now

-- the same of a reader, which may bring none
abbrev pub LearnsNext : {T E : Type 0} → Result (Option T) E → FileMap → FileMap → Learnt → Learnt → Type 0
LearnsNext (Ok (Some x)) old new known now = LearnsJudging old new known now
LearnsNext (Ok None) old new known now = LearnsNothing old new known now
LearnsNext (Err e) old new known now = LearnsJudging old new known now ⊎ LearnsNothing old new known now

-- The generations that are known agree with what is stored; and unless a fault takes the node down, that is learnt.
pub record LeavesLearnt (Learns : Type 0) (is_up : Bool) (new : FileMap) (now : Learnt) : Type 0 where
  pub agrees : AgreesIn new now.generations
  pub learns : is_up ≡ true → Learns

-- Beside that, after an error the same is awaited.
pub record Leaves {T E : Type 0} (honest Learns : Type 0) (result : Result T E) (is_up : Bool) (new : FileMap) (waits after : AwaitedText) (now : Learnt) : Type 0 where
  pub awaits : OnErr result (after ≡ waits)
  pub learnt : honest → LeavesLearnt Learns is_up new now

-- Of a value that a ref was set to: it is due, and what is due is learnt at the next message that is judged, each commit of its history
-- with its generation, if that is whole and 64 bits hold the number.
abbrev pub SetIsDue : Type 0
SetIsDue = (old new : FileMap) (known now : Learnt) (name : List ℕ) (id : ObjectId) → refs new name ≡ Some id → refs old name ≢ Some id → LearnsJudging old new known now → Contains now.due id

abbrev pub DueIsLearnt : Type 0
DueIsLearnt = (old new : FileMap) (known now : Learnt) (x : ObjectId) (n : ℕ) → IsOfWhole old known.due x n → LearnsJudging old new known now → numbers now.generations x ≡ Some n

-- ---- over files, and what is awaited as it lies in memory
-- a message that was read
abbrev pub LeavesMessage : {F : Type 0} → Type 0 → (F → FileMap) → Result Received CloneFault → F → F → Waiting → Waiting → Learnt → Learnt → Type 0
LeavesMessage honest content result old new awaited after known now =
    Leaves honest (LearnsFrom result (content old) (content new) known now) result (up_after result) (content new) (awaited_text awaited) (awaited_text after) now

-- the objects of a pack that a reader brings, and any message that it brings
abbrev pub LearnsPack : {F T : Type 0} → (F → FileMap) → Result T ReceiveFault → F → F → Learnt → Learnt → Type 0
LearnsPack content result old new known now = LeavesLearnt (LearnsFrom result (content old) (content new) known now) (receive_up_after result) (content new) now

abbrev pub LeavesCome : {F : Type 0} → Type 0 → (F → FileMap) → Result Received ReceiveFault → F → F → Waiting → Waiting → Learnt → Learnt → Type 0
LeavesCome honest content result old new awaited after known now =
    Leaves honest (LearnsFrom result (content old) (content new) known now) result (receive_up_after result) (content new) (awaited_text awaited) (awaited_text after) now

abbrev pub LeavesNext : {F : Type 0} → Type 0 → (F → FileMap) → Result (Option Received) ReceiveFault → F → F → Waiting → Waiting → Learnt → Learnt → Type 0
LeavesNext honest content result old new awaited after known now =
    Leaves honest (LearnsNext result (content old) (content new) known now) result (receive_up_after result) (content new) (awaited_text awaited) (awaited_text after) now

-- if no message came
abbrev pub IfNothing : {T E : Type 0} → Result (Option T) E → Type 0 → Type 0
IfNothing result IsSo = IfOk result (λ found. IfNone found IsSo)

-- all that a clone holds is as it was
abbrev pub KeepsAll : {F : Type 0} → F → F → Waiting → Waiting → Learnt → Learnt → Type 0
KeepsAll old new awaited after known now = (new ≡ old) × (awaited_text after ≡ awaited_text awaited) × (now ≡ known)
