-- A fault of an exchange, as a clone tells it: of which it may be over clean files, and what it says of the device.
use Rattle.std.proofs.Common.{◌≡◌, ◌⊎◌, inl, inr, ℕ, List, Option, Some, None, Result, Ok, Err, refl, sym, subst, true≢false}
use Rattle.std.specs.Prelude.{IfErr, IsErrAnd, IsErrOf, string_bytes}
use Rattle.vc_tracking.specs.Faults.{BlamesFiles, BlamesObjects, BlamesRefs}
use Rattle.vc_exchange.specs.Receiving.{BlamesAdvert, BlamesPack, DeclinesPack}
use Rattle.vc_exchange.specs.Wanting.{BlamesHeads, BlamesWanting}
use Rattle.vc_tracking.specs.declared.fault.ExchangeFault.{ExchangeFault}
use Rattle.vc_tracking.specs.declared.fault.ExchangeFault.TheVariants as exchange
use Rattle.vc_files.specs.Failures.{Writes}
use Rattle.vc_files.specs.FileMap.{FileMap}
use Rattle.vc_files.specs.declared.faults.Fault.{Fault as FilesFault}
use Rattle.vc_files.specs.declared.faults.Fault.TheVariants.{Device, Memory}
use Rattle.vc_model.specs.Message.{Message}
use Rattle.vc_object.specs.declared.id.ObjectId.{ObjectId}
use Rattle.vc_refs.specs.Head.{IsHeadLoop, head_of}
use Rattle.vc_refs.specs.Refs.{IsBadRef}
use Rattle.vc_refs.specs.declared.faults.RefFault.{RefFault}
use Rattle.vc_refs.specs.declared.faults.RefFault.TheVariants as refs
use Rattle.vc_refs.specs.declared.heads.Head.{Head}
use Rattle.vc_object_map.specs.declared.faults.StoreFault.{StoreFault}
use Rattle.vc_object_map.specs.declared.faults.StoreFault.TheVariants as store
use Rattle.vc_local.proofs.FaultLemmas.{refs_calm, store_calm, told_from, writes_by}
use Rattle.vc_local.proofs.RefusalLemmas.{no_head, of_head_value}
use Rattle.vc_local.specs.Clean.{IsClean}
use Rattle.vc_node.specs.CloneFaults.{IsOfDevice, TellsDevice, of_device, of_exchange}
use Rattle.vc_local.specs.NodeFault.{refused_by_refs, refused_by_store}
use Rattle.vc_node.specs.Receipts.{IsOfMessage}
use Rattle.vc_node.specs.declared.clone_fault.CloneFault.{CloneFault}
use Rattle.vc_node.specs.declared.clone_fault.CloneFault.TheVariants.{Node}

-- ---- which fault it may be
-- it is told as want of memory, or as a device that failed
abbrev pub IsFailing : CloneFault → Type 0
IsFailing e = (f : FilesFault) × (e ≡ of_device f)

objects_fail : (content : FileMap) → IsClean content → (fault : StoreFault) → BlamesObjects content fault → IsFailing (Node (refused_by_store fault))
objects_fail content clean (store.BadObject e) never = absurd never
objects_fail content clean (store.Absent id) never = absurd never
objects_fail content clean (store.Damaged id) bad = absurd (clean.objects id bad)
objects_fail content clean (store.Fault f) why = (Memory, refl)

refs_fail : (content : FileMap) → IsClean content → (fault : RefFault) → BlamesRefs content fault → IsFailing (Node (refused_by_refs fault))
refs_fail content clean (refs.Stale current) never = absurd never
refs_fail content clean (refs.Conflict name) never = absurd never
refs_fail content clean (refs.BadRefFile path) bad = absurd (clean.refs _ bad)
refs_fail content clean refs.HeadLoop never = absurd never
refs_fail content clean (refs.Fault f) why = (Memory, refl)

pub files_fail : (content : FileMap) → IsClean content → (fault : ExchangeFault) → BlamesFiles content fault → IsFailing (of_exchange fault)
files_fail content clean (exchange.Store e) why = objects_fail content clean e why
files_fail content clean (exchange.Refs e) why = refs_fail content clean e why
files_fail content clean (exchange.Incomplete id) never = absurd never
files_fail content clean (exchange.Fault f) why = (f, refl)

pub pack_fails : (content : FileMap) (wants : List ObjectId) (m : Message) → IsClean content → (fault : ExchangeFault) → BlamesPack content wants m fault
    → IsFailing (of_exchange fault) ⊎ ((id : ObjectId) × (fault ≡ exchange.Incomplete id) × DeclinesPack content wants m)
pack_fails content wants m clean (exchange.Store e) why = inl (objects_fail content clean e why)
pack_fails content wants m clean (exchange.Refs e) why = inl (refs_fail content clean e why)
pack_fails content wants m clean (exchange.Incomplete id) why = inr (id, refl, why)
pack_fails content wants m clean (exchange.Fault f) why = inl (f, refl)

module _ (content : FileMap) (head : Head) (at : head_of content ≡ Some head) where
  no_loop : IsHeadLoop content → ⊥
  no_loop loop = no_head content head at (of_head_value content refs.HeadLoop loop)

  heads_fail : IsClean content → (fault : RefFault) → BlamesHeads content fault → IsFailing (Node (refused_by_refs fault))
  heads_fail clean (refs.Stale current) never = absurd never
  heads_fail clean (refs.Conflict name) never = absurd never
  heads_fail clean (refs.BadRefFile path) (inl first) = absurd (clean.refs _ first.bad)
  heads_fail clean (refs.BadRefFile path) (inr named) = by (of_head_value content (refs.BadRefFile path) (inl named))
    where
      by : (head_of content ≡ None) ⊎ IsBadRef content (string_bytes path) → IsFailing (Node (refused_by_refs (refs.BadRefFile path)))
      by (inl none) = absurd (no_head content head at none)
      by (inr bad) = absurd (clean.refs _ bad)
  heads_fail clean refs.HeadLoop loop = absurd (no_loop loop)
  heads_fail clean (refs.Fault f) why = (Memory, refl)

  wanting_fails : IsClean content → (fault : ExchangeFault) → BlamesWanting content fault → IsFailing (of_exchange fault)
  wanting_fails clean (exchange.Store e) why = objects_fail content clean e why
  wanting_fails clean (exchange.Refs e) why = heads_fail clean e why
  wanting_fails clean (exchange.Incomplete id) never = absurd never
  wanting_fails clean (exchange.Fault f) why = (f, refl)

  pub advert_fails : IsClean content → (fault : ExchangeFault) → BlamesAdvert content fault → IsFailing (of_exchange fault)
  advert_fails clean fault (inl why) = wanting_fails clean fault why
  advert_fails clean fault (inr why) = files_fail content clean fault why

-- ---- what it is not
-- of the faults of an exchange one alone is of the message
pub incomplete_alone : (fault : ExchangeFault) → IsOfMessage (of_exchange fault) → (id : ObjectId) × (fault ≡ exchange.Incomplete id)
incomplete_alone (exchange.Store e) is = absurd is
incomplete_alone (exchange.Refs e) is = absurd is
incomplete_alone (exchange.Incomplete id) is = (id, refl)
incomplete_alone (exchange.Fault f) is = absurd is

pub files_no_message : (content : FileMap) (fault : ExchangeFault) → BlamesFiles content fault → IsOfMessage (of_exchange fault) → ⊥
files_no_message content fault why is = let one = incomplete_alone fault is in subst (BlamesFiles content) one.1 why

-- what holds after a refusal of the message holds where no other fault is one
pub kept_as : {T P : Type 0} (fault : ExchangeFault) (q : Result T CloneFault) → IsErrAnd q (λ x. x ≡ of_exchange fault) → (IsOfMessage (of_exchange fault) → P) → IfErr q (λ e. IsOfMessage e → P)
kept_as fault (Ok x) is holds = tt
kept_as fault (Err e) is holds = λ told. holds (subst IsOfMessage is told)

-- ---- the device
device_alone : (e : ExchangeFault) → IsOfDevice (of_exchange e) → e ≡ exchange.Fault Device
device_alone (exchange.Store e) told = absurd (store_calm e told)
device_alone (exchange.Refs e) told = absurd (refs_calm e told)
device_alone (exchange.Incomplete id) told = absurd told
device_alone (exchange.Fault Memory) told = absurd (true≢false (sym told))
device_alone (exchange.Fault Device) told = refl

module _ {X T : Type 0} (r : Result X ExchangeFault) (e : ExchangeFault) (was : r ≡ Err e) where
  pub device_from : (q : Result T CloneFault) → IsErrAnd q (λ x. x ≡ of_exchange e) → TellsDevice q → IsErrOf r (exchange.Fault Device)
  device_from q is told = told_from IsOfDevice of_exchange (exchange.Fault Device) device_alone refl r e was q is told

  -- an exchange's fault of the device is the clone's
  pub writes_as : {D : Type 0} {honest : Type 0} {content : D → FileMap} {failed : D → ℕ} {can_fail : D → Type 0} {left : D → Option ℕ} {old new : D} (q : Result T CloneFault) → IsErrAnd q (λ x. x ≡ of_exchange e)
      → Writes honest content failed can_fail left old new (IsErrOf r (exchange.Fault Device)) → Writes honest content failed can_fail left old new (TellsDevice q)
  writes_as q is w = writes_by IsOfDevice of_exchange (exchange.Fault Device) device_alone refl r e was q is w
