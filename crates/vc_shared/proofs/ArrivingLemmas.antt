-- A push that comes from a reader: what came of it so far, and why it didn't all come.
use Rattle.std.proofs.Common.{◌≡◌, ℕ, List, Option, Result, Ok, Err, refl, sym, subst, false, true≢false}
use Rattle.std.specs.Prelude.{IsErrAnd, IsErrOf}
use Rattle.vc_files.proofs.FileMapLemmas.{outside_same}
use Rattle.vc_files.specs.Failures.{Writes}
use Rattle.vc_files.specs.FileMap.{FileMap}
use Rattle.vc_files.specs.declared.faults.Fault.{Fault as FilesFault}
use Rattle.vc_files.specs.declared.faults.Fault.TheVariants.{Device, Memory}
use Rattle.vc_message.specs.AnyMessage.{any_step, beginning}
use Rattle.vc_message.specs.Incoming.{Fails}
use Rattle.vc_message.specs.declared.incoming_fault.IncomingFault.{IncomingFault}
use Rattle.vc_message.specs.declared.incoming_fault.IncomingFault.TheVariants as incoming
use Rattle.vc_local.proofs.FaultLemmas.{refusal_calm, up_is_calm as node_is_calm, writes_by}
use Rattle.vc_push_rules.specs.Quarantine.{IsDropped, quarantine_folder}
use Rattle.vc_push_rules.specs.Session.{SessionText}
use Rattle.vc_shared.proofs.PushingLemmas.{one_lowest}
use Rattle.vc_shared.specs.AcceptFault.{IsOfDevice, TellsDevice, is_fault, of_incoming, takes_down}
use Rattle.vc_message.specs.Coming.{TakesPart}
use Rattle.vc_shared.specs.Arriving.{IsCleared, IsStopped, by_bytes, by_node, by_reader}
use Rattle.vc_shared.specs.Faults.{of_device}
use Rattle.vc_shared.specs.Pushing.{AreTaken, ChangesFree, IsLowest}
use Rattle.vc_shared.specs.declared.accept_fault.AcceptFault.{AcceptFault}
use Rattle.vc_shared.specs.declared.accept_fault.AcceptFault.TheVariants.{Node, ReadFailed}
use Rattle.vc_shared.specs.declared.fault.SharedFault.TheVariants as shared

-- ---- what came so far
-- why the reader gave no more
pub stopped_by : (before new : Option (List ℕ)) (e : IncomingFault) → Fails any_step beginning before new e → IsStopped before new (of_incoming e)
stopped_by before new incoming.Memory fails = by_node fails Memory refl
stopped_by before new incoming.Failed fails = by_reader fails refl
stopped_by before new (incoming.Unread fault) fails = by_bytes fault fails refl

-- ---- the device
files_alone : (f : FilesFault) → IsOfDevice (Node (of_device f)) → f ≡ Device
files_alone Device told = refl
files_alone Memory told = absurd (true≢false (sym told))

module _ {T : Type 0} (f : FilesFault) where
  -- a fault of the files is told by the node
  pub writes_as : {X D : Type 0} {honest : Type 0} {content : D → FileMap} {failed : D → ℕ} {can_fail : D → Type 0} {left : D → Option ℕ} {old new : D} (q : Result T AcceptFault) → IsErrAnd q (λ x. x ≡ Node (of_device f))
      → Writes honest content failed can_fail left old new (IsErrOf {T = X} (Err f) Device) → Writes honest content failed can_fail left old new (TellsDevice q)
  writes_as {X = X} q is w = writes_by IsOfDevice (λ g. Node (of_device g)) Device files_alone refl {X = X} (Err f) f refl q is w

-- the reader's faults are none of the device
pub no_device : {T : Type 0} (e : IncomingFault) (q : Result T AcceptFault) → IsErrAnd q (λ x. x ≡ of_incoming e) → TellsDevice q → ⊥
no_device e (Ok x) is told = absurd is
no_device {T = T} e (Err x) is told = by e (subst (λ (y : AcceptFault). TellsDevice {T = T} (Err y)) is told)
  where
    by : (e : IncomingFault) → TellsDevice {T = T} (Err (of_incoming e)) → ⊥
    by incoming.Memory device = true≢false (sym device)
    by incoming.Failed device = device
    by (incoming.Unread fault) device = device

-- a refusal is no fault of the device
pub refusal_no_device : (e : AcceptFault) → is_fault e ≡ false → IsOfDevice e → ⊥
refusal_no_device ReadFailed calm device = device
refusal_no_device (Node (shared.Unread fault)) calm device = device
refusal_no_device (Node (shared.NotOurs id)) calm device = device
refusal_no_device (Node shared.Unexpected) calm device = device
refusal_no_device (Node shared.Busy) calm device = device
refusal_no_device (Node shared.NoSuchSlot) calm device = device
refusal_no_device (Node (shared.NoValue refusal)) calm device = device
refusal_no_device (Node (shared.Node fault)) calm device = refusal_calm fault calm device

-- what leaves the node up is a refusal
pub up_is_calm : (e : AcceptFault) → takes_down e ≡ false → is_fault e ≡ false
up_is_calm ReadFailed up = refl
up_is_calm (Node (shared.Unread fault)) up = refl
up_is_calm (Node (shared.NotOurs id)) up = refl
up_is_calm (Node shared.Unexpected) up = refl
up_is_calm (Node shared.Busy) up = refl
up_is_calm (Node shared.NoSuchSlot) up = refl
up_is_calm (Node (shared.NoValue refusal)) up = refl
up_is_calm (Node (shared.Node fault)) up = node_is_calm fault up

-- ---- a push that is turned away
pub part_of_stop : (before new : Option (List ℕ)) (e : AcceptFault) → IsStopped before new e → TakesPart before new
part_of_stop before new e (by_bytes fault taken is) = (taken.bytes, taken.taken)
part_of_stop before new e (by_reader part is) = part
part_of_stop before new e (by_node part fault is) = part

-- nothing changed
pub changes_none : (content : FileMap) (slots : List (Option SessionText)) → ChangesFree content content slots
changes_none content slots = record { none = λ taken. refl; outside = λ k lowest. outside_same (quarantine_folder k) content }

pub changes_same : (old new : FileMap) (slots : List (Option SessionText)) → new ≡ old → ChangesFree old new slots
changes_same old new slots same = subst (λ (content : FileMap). ChangesFree old content slots) (sym same) (changes_none old slots)

-- no slot is free
pub cleared_none : (content : FileMap) (slots : List (Option SessionText)) (e : AcceptFault) → AreTaken slots → IsCleared content slots e
cleared_none content slots e taken calm k lowest = absurd (taken k lowest.within lowest.free)

-- the lowest slot's quarantine was dropped
pub cleared_by : (content : FileMap) (slots : List (Option SessionText)) (e : AcceptFault) (k : ℕ) → IsLowest slots k → IsDropped k content → IsCleared content slots e
cleared_by content slots e k lowest dropped calm j other = subst (λ (i : ℕ). IsDropped i content) (one_lowest slots k j lowest other) dropped
