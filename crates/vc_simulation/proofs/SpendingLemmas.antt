-- What a call spends of the writes left, and what it tells of its device, in the world's words.
use Rattle.std.proofs.Common.{◌≡◌, ◌≢◌, ℕ, ◌-◌, Bool, true, false, [], Option, Some, None, Result, Ok, Err, inl, inr, refl, sym, ap, ◌∙◌, subst, arith}
use Rattle.std.specs.Prelude.{not}
use Rattle.vc_events.specs.Answers.{Shows}
use Rattle.vc_events.specs.declared.answers.Ended.{Ended}
use Rattle.vc_events.specs.declared.answers.Ended.TheVariants as ended
use Rattle.vc_events.specs.declared.answers.Told.{Told}
use Rattle.vc_events.specs.declared.answers.Told.TheVariants as told
use Rattle.vc_files.specs.Failures.{Wears}
use Rattle.vc_files.specs.declared.faults.Fault.TheVariants as files
use Rattle.vc_local.specs.Machine.{up_after as node_up_after}
use Rattle.vc_local.specs.NodeFault.{IsOfDevice as IsOfNodeDevice, TellsDevice as NodeTellsDevice, takes_down}
use Rattle.vc_local.specs.declared.fault.NodeFault.{NodeFault}
use Rattle.vc_local.specs.declared.fault.NodeFault.TheVariants as node
use Rattle.vc_model.specs.Fuse.{Burns, Fuse}
use Rattle.vc_model.specs.Message.{Message}
use Rattle.vc_model.specs.Node.{Answer}
use Rattle.vc_model.specs.Node.Answer.{Fault}
use Rattle.vc_model.specs.Node.Failure.{Device}
use Rattle.vc_model.specs.Repository.{Repository}
use Rattle.vc_node.specs.CloneFaults.{TellsDevice as CloneTellsDevice, up_after as clone_up_after}
use Rattle.vc_node.specs.declared.clone_fault.CloneFault.{CloneFault}
use Rattle.vc_node.specs.declared.clone_fault.CloneFault.TheVariants as clone
use Rattle.vc_object_map.specs.declared.faults.StoreFault.TheVariants as store
use Rattle.vc_refs.specs.declared.faults.RefFault.TheVariants as ref
use Rattle.vc_shared.specs.Faults.{TellsDevice as SharedTellsDevice, up_after as shared_up_after}
use Rattle.vc_shared.specs.declared.fault.SharedFault.{SharedFault}
use Rattle.vc_shared.specs.declared.fault.SharedFault.TheVariants as shared
use Rattle.vc_simulation.specs.Nodes.{IsRetold}

-- ---- answers

shown_device : (r : Result Told Ended) (a : Answer) (s : Option Message) → Shows r a s → a ≡ Fault Device → r ≡ Err (ended.Fault files.Device)
shown_device (Ok (told.Did d)) a s q is = let e = sym q.1.answer ∙ is in absurd (cc)
shown_device (Ok (told.Sends bytes)) a s q is = let e = sym q.answer ∙ is in absurd (cc)
shown_device (Err (ended.Refused n)) a s q is = let e = sym q.answer ∙ is in absurd (cc)
shown_device (Err (ended.Fault files.Memory)) a s q is = let e = sym q.answer ∙ is in absurd (cc)
shown_device (Err (ended.Fault files.Device)) a s q is = refl

-- a device's fault that is shown is one that the layer told
pub told_device : (shows : Answer → Option Message → Type 0) (IsDevice : Type 0) (r : Result Told Ended) → IsRetold shows IsDevice r → (a : Answer) (s : Option Message) → shows a s → a ≡ Fault Device → IsDevice
told_device shows IsDevice r retold a s shown is = retold.calm (shown_device r a s (retold.shown a s shown) is)

-- ---- the writes left

-- a call that changes nothing and is ended by no device spends nothing
pub burns_nothing : (frail : Bool) (f : Fuse) (may together : Type 0) (r : Repository) (a : Answer) → a ≢ Fault Device → Burns frail f may together r r a f
burns_nothing frail None may together r a other = ((λ is. absurd (other is)), refl)
burns_nothing frail (Some w) may together r a other = (
  0,
  omega arith,
  (λ _. refl),
  ([], omega arith, (λ all. absurd (let here = all.1 in omega arith)), record { objects = λ x. inl refl; refs = λ n. inl refl; head = inl refl; index = inl refl }),
  ap Some (whole w),
  (λ is. absurd (other is)),
)
  where
    whole : (w : ℕ) → w ≡ w - 0
    whole w = omega arith

-- what a call may is what another may that may more
pub burns_more : (frail : Bool) (f : Fuse) (may also together both : Type 0) (old new : Repository) (a : Answer) (after : Fuse) → (may → also) → (together → both)
    → Burns frail f may together old new a after → Burns frail f also both old new a after
burns_more frail None may also together both old new a after more all burns = burns
burns_more frail (Some w) may also together both old new a after more all burns = (
  burns.0,
  burns.1,
  (λ not. burns.2 (λ can. not (more can))),
  (burns.3.0, burns.3.1, (λ c. all (burns.3.2 c)), burns.3.3),
  burns.4,
  (λ is. elim (burns.5 is) [
    | inl frail ↦ inl frail
    | inr stopped ↦ inr (more stopped.0, stopped.1)
  ]),
)

-- ---- nodes that are down

-- a node that is up after a call was up before it, and the call told no fault of the device
pub still_up : (was is b : Bool) (IsDevice : Type 0) → (was ≡ false → is ≡ false) → (was ≡ true → is ≡ b) → (b ≡ true → ¬ IsDevice) → is ≡ true → (was ≡ true) × (¬ IsDevice)
still_up true is b IsDevice down up calm there = (refl, calm (sym (up refl) ∙ there))
still_up false is b IsDevice down up calm there = let e : false ≡ true = sym (down refl) ∙ there in absurd (cc e)

device_takes_down : (e : NodeFault) → IsOfNodeDevice e → takes_down e ≡ true
device_takes_down (node.Store (store.Fault f)) device = refl
device_takes_down (node.Store (store.BadObject f)) device = absurd device
device_takes_down (node.Store (store.Absent id)) device = absurd device
device_takes_down (node.Store (store.Damaged id)) device = absurd device
device_takes_down (node.Ref (ref.Fault f)) device = refl
device_takes_down (node.Ref (ref.Stale current)) device = absurd device
device_takes_down (node.Ref (ref.Conflict other)) device = absurd device
device_takes_down (node.Ref (ref.BadRefFile path)) device = absurd device
device_takes_down (node.Ref ref.HeadLoop) device = absurd device
device_takes_down _ device = absurd device

down_by_device : (e : NodeFault) → node_up_after {T = Unit {0}} (Err e) ≡ true → ¬ IsOfNodeDevice e
down_by_device e up device = let e : false ≡ true = sym (ap not (device_takes_down e device)) ∙ up in absurd (cc e)

pub node_calm : {T : Type 0} (r : Result T NodeFault) → node_up_after r ≡ true → ¬ NodeTellsDevice r
node_calm (Ok x) up device = absurd device
node_calm (Err e) up device = down_by_device e up device

pub clone_calm : {T : Type 0} (r : Result T CloneFault) → clone_up_after r ≡ true → ¬ CloneTellsDevice r
clone_calm (Ok x) up device = absurd device
clone_calm (Err (clone.Node e)) up device = down_by_device e up device
clone_calm (Err _) up device = absurd device

pub shared_calm : {T : Type 0} (r : Result T SharedFault) → shared_up_after r ≡ true → ¬ SharedTellsDevice r
shared_calm (Ok x) up device = absurd device
shared_calm (Err (shared.Node e)) up device = down_by_device e up device
shared_calm (Err _) up device = absurd device

-- a device that is as it was is only looked at
pub same_wears : {D : Type 0} (failed : D → ℕ) (can_fail : D → Type 0) (left : D → Option ℕ) (old new : D) (IsDevice : Type 0) → new ≡ old → ¬ IsDevice → Wears failed can_fail left old new IsDevice
same_wears {D} failed can_fail left old new IsDevice same never =
    subst (λ (d : D). Wears failed can_fail left old d IsDevice) (sym same)
    (record { later = omega arith; calm = λ can. can; could = λ device. absurd (never device); failed_now = λ device. absurd (never device); unspent = refl })
