-- Whose device failed, as an exchange tells it, and answers that may be lost on their way.
use Rattle.std.specs.Prelude.{◌≡◌, ◌⊎◌, ℕ, Bool, true, false, List, Option, Result, IsErrAnd}
use Rattle.vc_files.specs.Failures.{Writes}
use Rattle.vc_files.specs.FileMap.{FileMap}
use Rattle.vc_message.specs.Incoming.{TakesNothing}
use Rattle.vc_message.specs.Source.{one_more}
use Rattle.vc_node.specs.CloneFaults.{IsOfDevice}
use Rattle.vc_world.specs.declared.ending.ExchangeEnd.{ExchangeEnd}
use Rattle.vc_world.specs.declared.ending.ExchangeEnd.TheVariants as of
use Rattle.vc_world.specs.declared.peer.Reply.{Reply}
use Rattle.vc_world.specs.declared.peer.Reply.TheVariants as replies

-- the message is still to be read, so it may be lost
abbrev pub IsToRead : {A : Type 0} → Reply A → Type 0
IsToRead (replies.Reader reader) = Unit {0}
IsToRead reply = ⊥

-- a reader that was to bring a message had none, or failed while that was read
abbrev pub BringsNone : {A : Type 0} → (A → Option (List ℕ)) → (A → ℕ) → (A → Type 0) → A → A → Type 0
BringsNone remaining failed can_fail old new = TakesNothing (remaining old) (remaining new) ⊎ ((failed new ≡ one_more (failed old)) × can_fail old)

-- the message is still to be read, and its reader brings none
abbrev pub IsLost : {A : Type 0} → (A → Option (List ℕ)) → (A → ℕ) → (A → Type 0) → Reply A → Type 0
IsLost {A = A} remaining failed can_fail (replies.Reader reader) = (after : A) × BringsNone remaining failed can_fail reader after
IsLost remaining failed can_fail reply = ⊥

-- a peer that may lose an answer gave one that is lost
pub record Lost {A : Type 0} (loses : Type 0) (remaining : A → Option (List ℕ)) (failed : A → ℕ) (can_fail : A → Type 0) : Type 0 where
  pub may : loses
  pub reply : Reply A
  pub is_lost : IsLost remaining failed can_fail reply

-- the clone's device failed, or an answer that it was to take was lost
abbrev pub IsOfClone : {R : Type 0} → ExchangeEnd R → Type 0
IsOfClone (of.Clone fault) = IsOfDevice fault
IsOfClone end = ⊥

-- the device of the shared node failed
abbrev pub IsOfPeer : {R : Type 0} → (R → Type 0) → ExchangeEnd R → Type 0
IsOfPeer is_device (of.Shared refusal) = is_device refusal
IsOfPeer is_device end = ⊥

-- the shared node did not end it
abbrev pub IsOwn : {R : Type 0} → ExchangeEnd R → Type 0
IsOwn (of.Shared refusal) = ⊥
IsOwn end = Unit {0}

-- the exchange ends so
abbrev pub TellsClone : {R T : Type 0} → Result T (ExchangeEnd R) → Type 0
TellsClone result = IsErrAnd result IsOfClone

abbrev pub TellsPeer : {R T : Type 0} → (R → Type 0) → Result T (ExchangeEnd R) → Type 0
TellsPeer is_device result = IsErrAnd result (IsOfPeer is_device)

-- What calls do to a device. They tell a fault of the device also after an answer was lost on its way: then the device need not have
-- failed.
pub record WritesOrLoses {D : Type 0} (Loses honest : Type 0) (content : D → FileMap) (failed : D → ℕ) (can_fail : D → Type 0) (left : D → Option ℕ) (old new : D) (IsDevice : Type 0) : Type 0 where
  pub is_lost : Bool
  pub loses : is_lost ≡ true → Loses
  pub writes : Writes honest content failed can_fail left old new ((is_lost ≡ false) × IsDevice)
