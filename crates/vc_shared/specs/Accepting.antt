-- A message that comes to the shared node: that it is answered as the machine answers it, what it is answered over any files, and why it is
-- refused.
use Rattle.std.specs.Prelude.{◌≡◌, ℕ, Bool, true, List, Option, Result}
use Rattle.vc_files.specs.FileMap.{FileMap}
use Rattle.vc_files.specs.declared.faults.Fault.TheVariants.{Memory}
use Rattle.vc_message.specs.AnyMessage.{MessageText, SpellsMessage, a_list, a_push, a_want, any_step, beginning}
use Rattle.vc_model.specs.Message.{Message}
use Rattle.vc_model.specs.Message.Message.{Push}
use Rattle.vc_model.specs.SharedCall.{SharedCall}
use Rattle.vc_pkt.specs.Message.{FirstFault, IsSpelledBy}
use Rattle.vc_pkt.specs.declared.fault.PktFault.{PktFault}
use Rattle.vc_push_rules.specs.Session.{SessionText}
use Rattle.vc_shared.specs.Calls.{AcceptedAs, AnswersShared}
use Rattle.vc_shared.specs.Faults.{of_device, up_after}
use Rattle.vc_shared.specs.Pushing.{IsRefusedPush, OpensSlot}
use Rattle.vc_shared.specs.Serving.{IsAnswered, IsListed, RefusesList, RefusesWant}
use Rattle.vc_shared.specs.declared.accepting.Accepted.{Accepted}
use Rattle.vc_shared.specs.declared.accepting.Accepted.TheVariants.{Reply, Slot}
use Rattle.vc_shared.specs.declared.fault.SharedFault.{SharedFault}
use Rattle.vc_shared.specs.declared.fault.SharedFault.TheVariants.{Unexpected, Unread}

-- at a node that is up, whatever node was held, what is told is the machine's answer to the call
abbrev pub AnswersUp : SharedCall → Result Accepted SharedFault → FileMap → FileMap → List (Option SessionText) → List (Option SessionText) → Type 0
AnswersUp call result old new slots after =
    (was_up is_up : Bool) → was_up ≡ true → is_up ≡ up_after result → AnswersShared call (AcceptedAs result) old new slots after was_up is_up

-- what a message that was read is answered, over any files: a list by the refs, a want by its pack, and a push is open in its slot
abbrev pub IsAnsweredMessage : (old new : FileMap) → (slots after : List (Option SessionText)) → MessageText → Accepted → Type 0
IsAnsweredMessage old new slots after a_list (Reply bytes) = IsListed old bytes.items
IsAnsweredMessage old new slots after (a_want want) (Reply bytes) = IsAnswered old want bytes.items
IsAnsweredMessage old new slots after (a_push push) (Slot k) = OpensSlot new slots after push k
IsAnsweredMessage old new slots after _ _ = ⊥

-- the same of bytes that are one
abbrev pub IsAnsweredBytes : (old new : FileMap) → (slots after : List (Option SessionText)) → (bytes : List ℕ) → Accepted → Type 0
IsAnsweredBytes old new slots after bytes accepted = (text : MessageText) × IsSpelledBy SpellsMessage text bytes × IsAnsweredMessage old new slots after text accepted

-- why a message that was read is refused
abbrev pub IsRefusedMessage : FileMap → List (Option SessionText) → MessageText → SharedFault → Type 0
IsRefusedMessage content slots a_list e = RefusesList content e
IsRefusedMessage content slots (a_want want) e = RefusesWant content want e
IsRefusedMessage content slots (a_push push) e = IsRefusedPush slots e
IsRefusedMessage content slots _ e = e ≡ Unexpected

-- bytes are refused for their first fault, or for the message that they are, or there is no memory to read them
pub data IsRefusedBytes (content : FileMap) (slots : List (Option SessionText)) (bytes : List ℕ) (e : SharedFault) : Type 0 where
  unread : (fault : PktFault) → FirstFault any_step beginning bytes fault → e ≡ Unread fault → IsRefusedBytes content slots bytes e
  refused : (text : MessageText) → IsSpelledBy SpellsMessage text bytes → IsRefusedMessage content slots text e → IsRefusedBytes content slots bytes e
  no_memory : e ≡ of_device Memory → IsRefusedBytes content slots bytes e

-- only a push has anything written: its quarantine
abbrev pub IsToWrite : Message → Type 0
IsToWrite (Push atomic fault commands objects) = Unit {0}
IsToWrite _ = ⊥
