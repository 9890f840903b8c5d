-- A pack that comes from a reader to a clone: what came of it so far, why it didn't all come, and what is told of it then.
use Rattle.std.proofs.Common.{◌≡◌, ℕ, Bool, true, false, cond, List, Option, Some, None, IsSome, Result, Ok, Err, refl, sym, subst, true≢false}
use Rattle.std.specs.Prelude.{IfNone, IfSome, IsErrAnd, IsErrOf}
use Rattle.vc_fetch.specs.Pack.{is_object}
use Rattle.vc_files.specs.Failures.{Writes}
use Rattle.vc_files.specs.FileMap.{FileMap}
use Rattle.vc_files.specs.declared.faults.Fault.{Fault as FilesFault}
use Rattle.vc_files.specs.declared.faults.Fault.TheVariants.{Device, Memory}
use Rattle.vc_message.proofs.ComingLaws.{part_taken}
use Rattle.vc_message.specs.AnyMessage.{any_step, beginning}
use Rattle.vc_message.specs.Incoming.{Fails, TakesFault}
use Rattle.vc_message.specs.Streaming.{LeadsTo, of_pack, state_at}
use Rattle.vc_message.specs.declared.incoming_fault.IncomingFault.{IncomingFault}
use Rattle.vc_message.specs.declared.incoming_fault.IncomingFault.TheVariants as incoming
use Rattle.vc_object.specs.Decoding.{StoredObject}
use Rattle.vc_object.specs.declared.fault.ObjectFault.{ObjectFault}
use Rattle.vc_object.specs.declared.id.ObjectId.{ObjectId}
use Rattle.vc_pkt.specs.Carried.{with_object}
use Rattle.vc_pkt.specs.ObjectStream.{between}
use Rattle.vc_pkt.specs.declared.fault.PktFault.TheVariants.{BadRecord}
use Rattle.vc_push.specs.Push.{carry}
use Rattle.vc_quarantine.specs.Arrival.{HasArrived}
use Rattle.vc_message.specs.Coming.{TakesPart}
use Rattle.vc_local.proofs.FaultLemmas.{refusal_calm, writes_by}
use Rattle.vc_node.specs.Arriving.{IsStopped, by_bytes, by_node, by_reader}
use Rattle.vc_node.specs.CloneFaults.{of_device}
use Rattle.vc_node.specs.ReceiveFault.{IsOfDevice, TellsDevice, is_fault, of_incoming}
use Rattle.vc_node.specs.declared.clone_fault.CloneFault.TheVariants as clone
use Rattle.vc_node.specs.declared.receive_fault.ReceiveFault.{ReceiveFault}
use Rattle.vc_node.specs.declared.receive_fault.ReceiveFault.TheVariants.{Node, ReadFailed}

-- ---- what came so far
-- and where an object more came, whether or not it may
pub part_with : (before now : Option (List ℕ)) (place number first : ℕ) (ack : Option ObjectId) (objects : List StoredObject) (o : StoredObject)
    → (is_object o ≡ true → LeadsTo any_step beginning before now place number (state_at (of_pack ack (with_object o objects)) between)) → (is_object o ≡ false → TakesFault any_step beginning before now (BadRecord first)) → TakesPart before now
part_with before now place number first ack objects o more other = by (is_object o) refl
  where
    by : (b : Bool) → is_object o ≡ b → TakesPart before now
    by true is = part_taken before now place number _ (more is)
    by false is = let fault = other is in (fault.bytes, fault.taken)

-- why the reader gave no more
pub stopped_by : (before new : Option (List ℕ)) (e : IncomingFault) → Fails any_step beginning before new e → IsStopped before new (of_incoming e)
stopped_by before new incoming.Memory fails = by_node fails Memory refl
stopped_by before new incoming.Failed fails = by_reader fails refl
stopped_by before new (incoming.Unread fault) fails = by_bytes fault fails refl

-- ---- an object more of a pack
pub none_there : {T : Type 0} {P : Type 0} (found : Option T) → found ≡ None → IfNone found P → P
none_there None none so = so
none_there (Some x) none so = absurd (cc none)

pub some_there : {T : Type 0} {P : Type 0} (found : Option T) → IsSome found → IfSome found (λ x. P) → P
some_there None some so = absurd (true≢false (sym some))
some_there (Some x) some so = so

pub brought_object : (content : FileMap) (slot : ℕ) (names : List ObjectId) (fault : Option ObjectFault) (objects : List StoredObject) (o : StoredObject) → is_object o ≡ true → HasArrived content slot names fault (carry o (Ok objects))
    → HasArrived content slot names fault (Ok (with_object o objects))
brought_object content slot names fault objects o good brought = subst (λ (b : Bool). HasArrived content slot names fault (cond b (Ok (with_object o objects)) (Err o))) good brought

-- ---- the device
files_alone : (f : FilesFault) → IsOfDevice (Node (of_device f)) → f ≡ Device
files_alone Device told = refl
files_alone Memory told = absurd (true≢false (sym told))

module _ {T : Type 0} (f : FilesFault) where
  -- a fault of the files is told by the node
  pub files_writes : {X D : Type 0} {honest : Type 0} {content : D → FileMap} {failed : D → ℕ} {can_fail : D → Type 0} {left : D → Option ℕ} {old new : D} (q : Result T ReceiveFault) → IsErrAnd q (λ x. x ≡ Node (of_device f))
      → Writes honest content failed can_fail left old new (IsErrOf {T = X} (Err f) Device) → Writes honest content failed can_fail left old new (TellsDevice q)
  files_writes {X = X} q is w = writes_by IsOfDevice (λ g. Node (of_device g)) Device files_alone refl {X = X} (Err f) f refl q is w

-- the reader's faults are none of the device
pub no_device : {T : Type 0} (e : IncomingFault) (q : Result T ReceiveFault) → IsErrAnd q (λ x. x ≡ of_incoming e) → TellsDevice q → ⊥
no_device e (Ok x) is told = absurd is
no_device {T = T} e (Err x) is told = by e (subst (λ (y : ReceiveFault). TellsDevice {T = T} (Err y)) is told)
  where
    by : (e : IncomingFault) → TellsDevice {T = T} (Err (of_incoming e)) → ⊥
    by incoming.Memory device = true≢false (sym device)
    by incoming.Failed device = device
    by (incoming.Unread fault) device = device

-- a refusal is no fault of the device
pub refusal_no_device : (e : ReceiveFault) → is_fault e ≡ false → IsOfDevice e → ⊥
refusal_no_device ReadFailed calm device = device
refusal_no_device (Node (clone.Unread fault)) calm device = device
refusal_no_device (Node clone.Unexpected) calm device = device
refusal_no_device (Node clone.TooMany) calm device = device
refusal_no_device (Node (clone.Incomplete id)) calm device = device
refusal_no_device (Node (clone.NoValue refusal)) calm device = device
refusal_no_device (Node (clone.Node fault)) calm device = refusal_calm fault calm device
