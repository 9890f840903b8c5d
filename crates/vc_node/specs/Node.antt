-- What a call says of a node as one value: what it holds before and after, where `content` is what its files hold.
use Rattle.std.specs.Prelude.{◌≡◌, ℕ, Bool, true, false, List, Option, Result, Err, OnErr, map}
use Rattle.vc_sending.specs.Sending.{machine_items}
use Rattle.vc_sending.specs.declared.item.PushItem.{PushItem}
use Rattle.vc_files.specs.Failures.{Wears}
use Rattle.vc_files.specs.FileMap.{FileMap}
use Rattle.vc_message.specs.AnyMessage.{MessageText}
use Rattle.vc_message.specs.Machine.{FirstRead, TextOf}
use Rattle.vc_model.specs.Clone.{Task, IsItemId}
use Rattle.vc_model.specs.Clone.Task.{MakeCommit}
use Rattle.vc_model.specs.CloneCall.{CloneCall}
use Rattle.vc_model.specs.CloneCall.CloneCall.{Receive}
use Rattle.vc_model.specs.Message.{Message}
use Rattle.vc_model.specs.Node.{Answer}
use Rattle.vc_format.specs.Git.{bytes_of_id}
use Rattle.vc_model.specs.Object.{zero_id}
use Rattle.vc_object.specs.declared.id.ObjectId.{ObjectId}
use Rattle.vc_quarantine.specs.Learning.{IsNothing}
use Rattle.vc_node.specs.Arriving.{IsKnown, KeepsHeld, ReceivesFrom, ToldAs}
use Rattle.vc_node.specs.Awaited.{nothing}
use Rattle.vc_node.specs.CloneCalls.{AnswersClone, MayOr, ReceivedAs}
use Rattle.vc_node.specs.CloneFaults.{up_after as clone_up_after}
use Rattle.vc_node.specs.Held.{Held}
use Rattle.vc_node.specs.Learning.{LearnsFrom, LearnsNext}
use Rattle.vc_local.specs.Machine.{Answers, AnswersIfSound, AnswersShown, AnswersShownIfSound, MayWriteIfSoundOr, MayWriteOr, OrBadFile, done_answer}
use Rattle.vc_local.specs.NodeFault.{TellsDevice}
use Rattle.vc_node.specs.ReceiveFault.{up_after as receive_up_after}
use Rattle.vc_local.specs.Shown.{shown}
use Rattle.vc_local.specs.Staging.{StagesAllOr, StagesHeld, StagesShown}
use Rattle.vc_node.specs.declared.clone_fault.CloneFault.{CloneFault}
use Rattle.vc_node.specs.declared.clone_fault.CloneFault.TheVariants.{Node}
use Rattle.vc_node.specs.declared.exchanging.Received.{Received}
use Rattle.vc_local.specs.declared.fault.NodeFault.{NodeFault}
use Rattle.vc_local.specs.declared.fault.NodeFault.TheVariants.{Down}
use Rattle.vc_node.specs.declared.receive_fault.ReceiveFault.{ReceiveFault}
use Rattle.vc_local.specs.declared.staging.Staged.{Staged}

-- ---- the node

-- a node that has just been opened: it is up, awaits nothing, and has learnt nothing
pub record IsFresh {F : Type 0} (node : Held F) : Type 0 where
  pub up : node.is_up ≡ true
  pub awaits : node.awaited ≡ nothing
  pub learnt : IsNothing node.learnt

-- One that is down answers so and stays as it is, one that is up is up after it or not, and what it awaits and has learnt stays.
pub record Settles {F : Type 0} (IsDown : Type 0) (is_up : Bool) (old new : Held F) : Type 0 where
  pub down : old.is_up ≡ false → IsDown
  pub unchanged : old.is_up ≡ false → new ≡ old
  pub up : old.is_up ≡ true → new.is_up ≡ is_up
  pub awaits : new.awaited ≡ old.awaited
  pub learnt : new.learnt ≡ old.learnt

-- The same of a call that may change what is awaited: after an error the same is.
pub record SettlesTaken {F T E : Type 0} (result : Result T E) (IsDown : Type 0) (is_up : Bool) (old new : Held F) : Type 0 where
  pub down : old.is_up ≡ false → IsDown
  pub unchanged : old.is_up ≡ false → new ≡ old
  pub up : old.is_up ≡ true → new.is_up ≡ is_up
  pub awaits : OnErr result (new.awaited ≡ old.awaited)
  pub learnt : new.learnt ≡ old.learnt

-- The same of a call that takes a message: if the node is up then, this is learnt.
pub record SettlesLearning {F T E : Type 0} (honest Learns : Type 0) (result : Result T E) (IsDown : Type 0) (is_up : Bool) (old new : Held F) : Type 0 where
  pub down : old.is_up ≡ false → IsDown
  pub unchanged : old.is_up ≡ false → new ≡ old
  pub up : old.is_up ≡ true → new.is_up ≡ is_up
  pub awaits : OnErr result (new.awaited ≡ old.awaited)
  pub learns : honest → new.is_up ≡ true → Learns

abbrev pub SettlesMessage : {F : Type 0} → Type 0 → (F → FileMap) → Result Received CloneFault → Held F → Held F → Type 0
SettlesMessage honest content result old new =
    SettlesLearning honest (LearnsFrom result (content old.files) (content new.files) old.learnt new.learnt) result (result ≡ Err (Node Down)) (clone_up_after result) old new

-- what one that is down answers is said of the message that comes
abbrev pub SettlesNext : {F : Type 0} → Type 0 → (F → FileMap) → Result (Option Received) ReceiveFault → Held F → Held F → Type 0
SettlesNext honest content result old new =
    SettlesLearning honest (LearnsNext result (content old.files) (content new.files) old.learnt new.learnt) result (Unit {0}) (receive_up_after result) old new

-- the device is only looked at, as it may be when a call ends that is refused, or that changes nothing
abbrev pub Looks : {F T : Type 0} → (F → ℕ) → (F → Type 0) → (F → Option ℕ) → Held F → Held F → Result T NodeFault → Type 0
Looks failed can_fail left old new result = Wears failed can_fail left old.files new.files (TellsDevice result)

-- ---- a command

-- The machine's answer to it, and the node that it leads to: of a node that is held, and of what any files show, if none that the
-- call reads is bad.
pub record AnswersCommand {F T : Type 0} (content : F → FileMap) (task : Task) (told : Result T NodeFault → Answer) (result : Result T NodeFault) (old new : Held F) : Type 0 where
  pub held : Answers task (told result) old.is_up new.is_up (content old.files) (content new.files)
  pub any : OrBadFile (content old.files) result (AnswersShown task (told result) old.is_up new.is_up (shown (content old.files)) (shown (content new.files)))

-- The same of a command that takes it that all is there that refs reach.
pub record AnswersCommandIfSound {F T : Type 0} (content : F → FileMap) (task : Task) (told : Result T NodeFault → Answer) (result : Result T NodeFault) (old new : Held F) : Type 0 where
  pub held : AnswersIfSound task (told result) old.is_up new.is_up (content old.files) (content new.files)
  pub any : OrBadFile (content old.files) result (AnswersShownIfSound task (told result) old.is_up new.is_up (shown (content old.files)) (shown (content new.files)))

-- the machine may write, or this holds
abbrev pub MayCommand : {F : Type 0} → (F → FileMap) → Task → Held F → Type 0 → Type 0
MayCommand content task old IsLook = MayWriteOr task old.is_up (content old.files) IsLook

abbrev pub MayCommandIfSound : {F : Type 0} → (F → FileMap) → Task → Held F → Type 0 → Type 0
MayCommandIfSound content task old IsLook = MayWriteIfSoundOr task old.is_up (content old.files) IsLook

-- the command of a commit
abbrev pub commit_task : List ObjectId → List ℕ → List ℕ → List ℕ → Task
commit_task extra author committer message = MakeCommit (map bytes_of_id extra) author committer message

abbrev pub MayCommit : {F : Type 0} → (F → FileMap) → List ObjectId → (author committer message : List ℕ) → Held F → Type 0 → Type 0
MayCommit content extra author committer message old IsLook = MayCommandIfSound content (commit_task extra author committer message) old IsLook

-- many files at once: the machine's commands, one after the other
pub record AnswersStaging {F : Type 0} (content : F → FileMap) (staged : List Staged) (result : Result (Unit {0}) NodeFault) (old new : Held F) : Type 0 where
  pub held : StagesHeld staged (done_answer result) old.is_up new.is_up (content old.files) (content new.files)
  pub any : StagesShown staged (done_answer result) old.is_up new.is_up (shown (content old.files)) (shown (content new.files))

abbrev pub MayStaging : {F : Type 0} → (F → FileMap) → List Staged → Held F → Type 0 → Type 0
MayStaging content staged old IsLook = StagesAllOr staged old.is_up (content old.files) IsLook

-- ---- any call

-- no item's id is the zero id
abbrev pub PushesNoZero : List PushItem → Type 0
PushesNoZero items = ¬ IsItemId (machine_items items) zero_id

abbrev pub AnswersCall : {F : Type 0} → (F → FileMap) → CloneCall → (Answer → Option Message → Type 0) → Held F → Held F → Type 0
AnswersCall content call Shows old new = AnswersClone call Shows (content old.files) (content new.files) old.awaited new.awaited old.is_up new.is_up

abbrev pub MayCall : {F : Type 0} → (F → FileMap) → CloneCall → Held F → Type 0 → Type 0
MayCall content call old IsLook = MayOr call old.awaited old.is_up (content old.files) IsLook

-- the message of this text is taken
abbrev pub AnswersText : {F : Type 0} → (F → FileMap) → MessageText → Result Received CloneFault → Held F → Held F → Type 0
AnswersText content text result old new = (m : Message) → TextOf m text → AnswersCall content (Receive m) (ReceivedAs result) old new

abbrev pub MayText : {F : Type 0} → (F → FileMap) → MessageText → Held F → Type 0 → Type 0
MayText content text old IsLook = (m : Message) → TextOf m text → MayCall content (Receive m) old IsLook

-- the next message of a reader is taken
abbrev pub ReceivesNext : {F : Type 0} → Type 0 → (F → FileMap) → Option (List ℕ) → Option (List ℕ) → Held F → Held F → Result (Option Received) ReceiveFault → Type 0
ReceivesNext honest content before rest old new result = ReceivesFrom honest before rest (content old.files) (content new.files) old.awaited new.awaited old.is_up new.is_up result

abbrev pub AnswersFirst : {F : Type 0} → Type 0 → (F → FileMap) → Option (List ℕ) → Option (List ℕ) → Held F → Held F → Result (Option Received) ReceiveFault → Type 0
AnswersFirst honest content before left old new result = FirstRead before (λ m rest. IsKnown honest old.is_up m rest left (λ call. AnswersCall content call (ToldAs result) old new) result)

-- whatever node was held is held, and awaits the same
abbrev pub KeepsNode : {F : Type 0} → (F → FileMap) → Held F → Held F → Type 0
KeepsNode content old new = KeepsHeld (content old.files) (content new.files) old.awaited new.awaited old.is_up new.is_up
