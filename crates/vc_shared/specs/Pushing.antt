-- How a push is opened in the lowest free slot, and that what is said of it is the machine's answer to its message.
use Rattle.std.specs.Prelude.{◌≡◌, ◌≢◌, ◌≤◌, ◌<◌, ◌⊎◌, ℕ, Bool, true, List, length, Option, Some, None, Result, Ok, Err, IfOk, IfErr, OnErr, slice_set}
use Rattle.std.specs.List.{All}
use Rattle.vc_files.specs.FileMap.{FileMap, SameOutside}
use Rattle.vc_files.specs.declared.faults.Fault.{Fault as FilesFault}
use Rattle.vc_message.specs.AnyMessage.{SpellsMessage, a_push}
use Rattle.vc_message.specs.Machine.{IsPush}
use Rattle.vc_model.specs.Message.{Message}
use Rattle.vc_model.specs.SharedCall.SharedCall.{Accept}
use Rattle.vc_model.specs.Shared.{slot_count}
use Rattle.vc_object.specs.declared.fault.ObjectFault.{ObjectFault}
use Rattle.vc_pkt.specs.Message.{IsSpelledBy}
use Rattle.vc_push.specs.Push.{CommandText, FaultOf, PushText, max_commands}
use Rattle.vc_push_rules.specs.Carrying.{Carries, objects_of_push}
use Rattle.vc_quarantine.specs.Clean.{IsQuarantineClean, MakesNoneBad}
use Rattle.vc_push_rules.specs.Quarantine.{quarantine_folder}
use Rattle.vc_push_rules.specs.Session.{IsSession, SessionText}
use Rattle.vc_push_rules.specs.Steps.{IsOpened}
use Rattle.vc_shared.specs.Calls.{AcceptedAs, AnswersShared}
use Rattle.vc_shared.specs.Faults.{of_device, up_after}
use Rattle.vc_shared.specs.Slots.{IsTellable, slot_of}
use Rattle.vc_shared.specs.declared.accepting.Accepted.{Accepted}
use Rattle.vc_shared.specs.declared.accepting.Accepted.TheVariants.{Slot}
use Rattle.vc_shared.specs.declared.fault.SharedFault.{SharedFault}
use Rattle.vc_shared.specs.declared.fault.SharedFault.TheVariants.{Busy}

-- ---- slots
-- this slot is free, and each below it is taken
pub record IsLowest (slots : List (Option SessionText)) (k : ℕ) : Type 0 where
  pub within : k < slot_count
  pub free : slot_of slots k ≡ None
  pub taken : (j : ℕ) → j < k → slot_of slots j ≢ None

-- in each of the eight a push is open
abbrev pub AreTaken : List (Option SessionText) → Type 0
AreTaken slots = (k : ℕ) → k < slot_count → slot_of slots k ≢ None

-- the lowest that is free, or none where all are taken
abbrev pub FindsFree : List (Option SessionText) → Option ℕ → Type 0
FindsFree slots (Some k) = IsLowest slots k
FindsFree slots None = AreTaken slots

-- ---- what is read
-- one report can tell what becomes of all the commands
pub record AreTellableInOne (commands : List CommandText) : Type 0 where
  pub each : All IsTellable commands
  pub few : length commands ≤ max_commands

-- it can, where the push was read
abbrev pub ReadsTellable : Type 0
ReadsTellable = (push : PushText) (bytes : List ℕ) → IsSpelledBy SpellsMessage (a_push push) bytes → AreTellableInOne push.commands

-- ---- the opening
-- The push is open in this slot: what it carries stands in the slot's quarantine, and nothing bad does.
pub record OpensSlot (new : FileMap) (slots after : List (Option SessionText)) (push : PushText) (k : ℕ) : Type 0 where
  pub lowest : IsLowest slots k
  pub session : SessionText
  pub fault : Option ObjectFault
  pub fault_is : FaultOf push.carried fault
  pub opened : IsOpened k fault push.atomic push.commands session
  pub is_session : IsSession session
  pub carries : Carries new k session.names (objects_of_push push.carried)
  pub clean : IsQuarantineClean new k
  pub left : after ≡ slice_set slots k (Some session)

-- nothing has changed but what stands in the quarantine of the lowest free slot, where there is one
pub record ChangesFree (old new : FileMap) (slots : List (Option SessionText)) : Type 0 where
  pub none : AreTaken slots → new ≡ old
  pub outside : (k : ℕ) → IsLowest slots k → SameOutside (quarantine_folder k) old new

-- why no push is opened: all slots are taken, or a fault came
abbrev pub IsRefusedPush : List (Option SessionText) → SharedFault → Type 0
IsRefusedPush slots e = (AreTaken slots × (e ≡ Busy)) ⊎ ((k : ℕ) × (fault : FilesFault) × IsLowest slots k × (e ≡ of_device fault))

-- ---- the machine's answer
-- what is told of the slot
abbrev pub slot_reply : Result ℕ SharedFault → Result Accepted SharedFault
slot_reply (Ok k) = Ok (Slot k)
slot_reply (Err e) = Err e

-- at a node that is up: a push is opened, or refused, as the machine does with its message
abbrev pub PushAnswers : Type 0
PushAnswers = (old new : FileMap) (slots after : List (Option SessionText)) (push : PushText) (m : Message) (was_up is_up : Bool) (result : Result ℕ SharedFault)
    → IsPush m push
    → IfOk result (OpensSlot new slots after push)
    → OnErr result (after ≡ slots)
    → IfErr result (IsRefusedPush slots)
    → ChangesFree old new slots → MakesNoneBad old new
    → was_up ≡ true → is_up ≡ up_after result → AnswersShared (Accept m) (AcceptedAs (slot_reply result)) old new slots after was_up is_up
