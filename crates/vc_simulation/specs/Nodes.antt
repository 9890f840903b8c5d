-- The machine's nodes that a world's nodes may be, over a device that may be frail, and the writes left there before a stop.
use Rattle.std.specs.Prelude.{◌≡◌, ◌⊎◌, ℕ, Bool, IsTrue, Option, None, Some, Result, Err}
use Rattle.std.specs.FinMap.{empty}
use Rattle.vc_events.specs.Answers.{Shows}
use Rattle.vc_events.specs.Calls.{Seen}
use Rattle.vc_events.specs.declared.answers.Ended.{Ended}
use Rattle.vc_events.specs.declared.answers.Ended.TheVariants as ended
use Rattle.vc_events.specs.declared.answers.Told.{Told}
use Rattle.vc_files.specs.FileMap.{FileMap}
use Rattle.vc_files.specs.Fused.{Fused, FusedCanFail, fused_left}
use Rattle.vc_files.specs.declared.faults.Fault.{Fault as FilesFault}
use Rattle.vc_files.specs.declared.faults.Fault.TheVariants.{Device, Memory}
use Rattle.vc_model.specs.Clone.{Awaited, CloneNode}
use Rattle.vc_model.specs.Message.{Message}
use Rattle.vc_model.specs.Node.{Answer}
use Rattle.vc_model.specs.Repository.{Repository}
use Rattle.vc_model.specs.Shared.{SharedNode}
use Rattle.vc_node.specs.Awaited.{IsAwaited}
use Rattle.vc_node.specs.Held.{Held}
use Rattle.vc_local.specs.Machine.{HoldsNode}
use Rattle.vc_local.specs.declared.fault.NodeFault.{NodeFault}
use Rattle.vc_local.specs.declared.fault.NodeFault.TheVariants.{Ref, Store}
use Rattle.vc_refs.specs.declared.faults.RefFault.TheVariants as ref
use Rattle.vc_rules.specs.Stops.{IsBelow, IsCalm}
use Rattle.vc_shared.specs.Holding.{HoldsShared, SharedText}
use Rattle.vc_object_map.specs.declared.faults.StoreFault.TheVariants as store
use Rattle.vc_simulation.specs.declared.world_clone.WorldClone.{WorldClone}
use Rattle.vc_simulation.specs.declared.world_shared.WorldShared.{WorldShared}

-- ---- a node over any files

-- The shared node is held, and while it is up its device can fail by itself only if it is frail.
pub record HoldsServed {F : Type 0} (content : F → FileMap) (can_fail : F → Type 0) (frail : Bool) (v : SharedText F) (n : SharedNode) : Type 0 where
  pub holds : HoldsShared (content v.files) v.slots v.is_up n
  pub calm : IsCalm can_fail frail v.is_up v.files

-- The same of a clone.
pub record HoldsClone {F : Type 0} (content : F → FileMap) (can_fail : F → Type 0) (frail : Bool) (v : Held F) (n : CloneNode) : Type 0 where
  pub awaited : Awaited
  pub is_awaited : IsAwaited v.awaited awaited
  pub holds : HoldsNode (content v.files) v.is_up awaited n
  pub calm : IsCalm can_fail frail v.is_up v.files

abbrev pub seen_shared : {F : Type 0} → (F → FileMap) → (F → Type 0) → (F → Option ℕ) → Seen (SharedText F) SharedNode
seen_shared content can_fail left = record { may_be = λ frail v n. HoldsServed content can_fail frail v n; left = λ v. left v.files }

abbrev pub seen_clone : {F : Type 0} → (F → FileMap) → (F → Type 0) → (F → Option ℕ) → Seen (Held F) CloneNode
seen_clone content can_fail left = record { may_be = λ frail v n. HoldsClone content can_fail frail v n; left = λ v. left v.files }

-- ---- a node of a world, over files that a stop can be set for

-- What has a node is seen as it is, where this holds of its files' kind.
abbrev pub seen_in : {W D N : Type 0} → (Bool → Type 0) → (W → D) → Seen D N → Seen W N
seen_in Below node seen = record { may_be = λ frail w n. Below frail × seen.may_be frail (node w) n; left = λ w. seen.left (node w) }

abbrev pub seen_served : {F : Type 0} → (F → FileMap) → (F → Type 0) → (F → Option ℕ) → Seen (WorldShared (Fused F)) SharedNode
seen_served content can_fail left =
    seen_in (λ frail. IsBelow can_fail left frail) (λ w. w.node) (seen_shared (λ s. content s.files) (FusedCanFail can_fail left) (fused_left left))

abbrev pub seen_cloned : {F : Type 0} → (F → FileMap) → (F → Type 0) → (F → Option ℕ) → Seen (WorldClone (Fused F)) CloneNode
seen_cloned content can_fail left =
    seen_in (λ frail. IsBelow can_fail left frail) (λ w. w.node) (seen_clone (λ s. content s.files) (FusedCanFail can_fail left) (fused_left left))

-- ---- what is told

-- What a layer's call shows is told again in the world's words; a device's fault, only where the layer tells one.
pub record IsRetold (shows : Answer → Option Message → Type 0) (IsDevice : Type 0) (told : Result Told Ended) : Type 0 where
  pub shown : (a : Answer) (sends : Option Message) → shows a sends → Shows told a sends
  pub calm : told ≡ Err (ended.Fault Device) → IsDevice

-- ---- the beginning

-- The device can fail only if it is frail, and no stop is set.
pub record IsReady {F : Type 0} (can_fail : F → Type 0) (left : F → Option ℕ) (frail : Bool) (files : F) : Type 0 where
  pub calm : can_fail files → IsTrue frail
  pub unstopped : left files ≡ None

-- It may be this node, and no stop is set.
pub record BeginsAs {D N : Type 0} (seen : Seen D N) (frail : Bool) (v : D) (n : N) : Type 0 where
  pub may_be : seen.may_be frail v n
  pub unstopped : seen.left v ≡ None

-- a shared node that has just been opened
abbrev pub opened_shared : Repository → SharedNode
opened_shared r = record { repository = r; live = Some empty }

-- nothing is stored there
abbrev pub IsEmpty : {F : Type 0} → (F → FileMap) → F → Type 0
IsEmpty content files = content files ≡ empty

-- want of memory, unless the device is frail
abbrev pub IsMemoryUnless : Bool → FilesFault → Type 0
IsMemoryUnless frail fault = (fault ≡ Memory) ⊎ IsTrue frail

-- A node was not opened for a fault, which is want of memory unless the device is frail.
abbrev pub IsFaultOf : Bool → NodeFault → Type 0
IsFaultOf frail (Store (store.Fault fault)) = IsMemoryUnless frail fault
IsFaultOf frail (Ref (ref.Fault fault)) = IsMemoryUnless frail fault
IsFaultOf frail _ = ⊥

-- The fault for which a node was not opened. Files that hold what nobody stored there are a device that failed.
abbrev pub fault_of : NodeFault → FilesFault
fault_of (Store (store.Fault fault)) = fault
fault_of (Ref (ref.Fault fault)) = fault
fault_of _ = Device
