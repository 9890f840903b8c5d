-- What is told of an answer: that a turn is no end where something is told, that it tells a fault of the device as the node did, and
-- whether the node is up after it.
use Rattle.std.proofs.Common.{◌≡◌, ◌≢◌, ◌⊎◌, ℕ, Bool, true, false, List, Option, Some, None, Result, Ok, Err, refl, sym, ap, ◌∙◌, subst, inl, inr, true≢false}
use Rattle.std.specs.Prelude.{not}
use Rattle.vc_files.specs.declared.faults.Fault.{Fault as FilesFault}
use Rattle.vc_files.specs.declared.faults.Fault.TheVariants as files
use Rattle.vc_model.specs.Message.{Message}
use Rattle.vc_model.specs.Node.{Answer}
use Rattle.vc_model.specs.Node.Answer.{Declined, Fault as Failed}
use Rattle.vc_model.specs.Node.Failure.{Device as DeviceFailed}
use Rattle.vc_model.specs.SharedCall.{SharedCall}
use Rattle.vc_local.proofs.AnswerLemmas.{stays, stays_by_fault}
use Rattle.vc_local.specs.Machine.{failure_of, fault_answer as node_answer}
use Rattle.vc_local.specs.NodeFault.{IsOfDevice as IsNodeDevice, is_fault as is_node_fault}
use Rattle.vc_local.specs.declared.fault.NodeFault.{NodeFault}
use Rattle.vc_local.specs.declared.fault.NodeFault.TheVariants as node
use Rattle.vc_message.specs.Machine.{pkt_number}
use Rattle.vc_pkt.specs.declared.fault.PktFault.{PktFault}
use Rattle.vc_pkt.specs.declared.fault.PktFault.TheVariants as pkt
use Rattle.vc_refs.specs.declared.faults.RefFault.TheVariants as refs
use Rattle.vc_rev.specs.Value.{refusal_number}
use Rattle.vc_rev.specs.declared.refusal.Refusal.{Refusal}
use Rattle.vc_rev.specs.declared.refusal.Refusal.TheVariants as rev
use Rattle.vc_shared.specs.AcceptFault.{TellsDevice, ends_in_fault, up_after}
use Rattle.vc_shared.specs.Arriving.{IsKnown}
use Rattle.vc_shared.specs.Faults.{IsOfDevice, fault_answer, is_fault, takes_down}
use Rattle.vc_shared.specs.declared.accept_fault.AcceptFault.TheVariants.{Node as OfNode, ReadFailed as Lost}
use Rattle.vc_shared.specs.declared.fault.SharedFault.{SharedFault}
use Rattle.vc_shared.specs.declared.fault.SharedFault.TheVariants.{Busy, NoSuchSlot, NoValue, Node, NotOurs, Unexpected, Unread}
use Rattle.vc_object_map.specs.declared.faults.StoreFault.TheVariants as store
use Rattle.vc_server.specs.Coming.{Reply}
use Rattle.vc_server.specs.Telling.{TellsAnswer, TellsRefusal}
use Rattle.vc_server.specs.Turn.{IsUpThen, LeavesRest, ends_in_fault as turn_failed}
use Rattle.vc_server.specs.declared.serve_fault.ServeFault.{ServeFault}
use Rattle.vc_server.specs.declared.serve_fault.ServeFault.TheVariants.{Fault, Memory, ReadFailed, WriteFailed}
use Rattle.vc_server.specs.declared.telling.Served.{Served}
use Rattle.vc_server.specs.declared.telling.Served.TheVariants.{Answered, End, Refused}

-- ---- a fault of the device
-- a refusal, and want of memory, are none
abbrev IsDeviceOr : Type 0 → Answer → Type 0
IsDeviceOr device a = (device × (a ≡ Failed DeviceFailed)) ⊎ ((device → ⊥) × (a ≢ Failed DeviceFailed))

declined : (device : Type 0) (n : ℕ) → (device → ⊥) → IsDeviceOr device (Declined n)
declined device n never = inr (never, λ is. cc is)

node_device : (e : NodeFault) → IsDeviceOr (IsNodeDevice e) (node_answer e)
node_device (node.Store (store.BadObject fault)) = declined _ _ (λ never. never)
node_device (node.Store (store.Absent id)) = declined _ _ (λ never. never)
node_device (node.Store (store.Damaged id)) = declined _ _ (λ never. never)
node_device (node.Store (store.Fault files.Device)) = inl (refl, refl)
node_device (node.Store (store.Fault files.Memory)) = inr ((λ never. cc never), λ is. cc is)
node_device (node.Ref (refs.Stale current)) = declined _ _ (λ never. never)
node_device (node.Ref (refs.Conflict name)) = declined _ _ (λ never. never)
node_device (node.Ref (refs.BadRefFile path)) = declined _ _ (λ never. never)
node_device (node.Ref refs.HeadLoop) = declined _ _ (λ never. never)
node_device (node.Ref (refs.Fault files.Device)) = inl (refl, refl)
node_device (node.Ref (refs.Fault files.Memory)) = inr ((λ never. cc never), λ is. cc is)
node_device (node.Missing id) = declined _ _ (λ never. never)
node_device (node.NotACommit id) = declined _ _ (λ never. never)
node_device node.BadPath = declined _ _ (λ never. never)
node_device node.PathConflict = declined _ _ (λ never. never)
node_device (node.BadIndex place) = declined _ _ (λ never. never)
node_device (node.WrongEntry at) = declined _ _ (λ never. never)
node_device node.Down = declined _ _ (λ never. never)

device_of : (e : SharedFault) → IsDeviceOr (IsOfDevice e) (fault_answer e)
device_of (Unread fault) = declined _ _ (λ never. never)
device_of (NotOurs id) = declined _ _ (λ never. never)
device_of Unexpected = declined _ _ (λ never. never)
device_of Busy = declined _ _ (λ never. never)
device_of NoSuchSlot = declined _ _ (λ never. never)
device_of (NoValue refusal) = declined _ _ (λ never. never)
device_of (Node fault) = node_device fault

-- ---- a fault, and what takes the node down
abbrev is_failure : Answer → Bool
is_failure (Failed f) = true
is_failure _ = false

node_failing : (e : NodeFault) → is_node_fault e ≡ is_failure (node_answer e)
node_failing (node.Store (store.BadObject fault)) = refl
node_failing (node.Store (store.Absent id)) = refl
node_failing (node.Store (store.Damaged id)) = refl
node_failing (node.Store (store.Fault fault)) = refl
node_failing (node.Ref (refs.Stale current)) = refl
node_failing (node.Ref (refs.Conflict name)) = refl
node_failing (node.Ref (refs.BadRefFile path)) = refl
node_failing (node.Ref refs.HeadLoop) = refl
node_failing (node.Ref (refs.Fault fault)) = refl
node_failing (node.Missing id) = refl
node_failing (node.NotACommit id) = refl
node_failing node.BadPath = refl
node_failing node.PathConflict = refl
node_failing (node.BadIndex place) = refl
node_failing (node.WrongEntry at) = refl
node_failing node.Down = refl

failing : (e : SharedFault) → is_fault e ≡ is_failure (fault_answer e)
failing (Unread fault) = refl
failing (NotOurs id) = refl
failing Unexpected = refl
failing Busy = refl
failing NoSuchSlot = refl
failing (NoValue refusal) = refl
failing (Node fault) = node_failing fault

-- a fault has no number
no_number : (e : SharedFault) (n : ℕ) → is_fault e ≡ true → fault_answer e ≡ Declined n → ⊥
no_number e n failed declined = true≢false (sym failed ∙ failing e ∙ ap is_failure declined)

unread_stays : (fault : PktFault) → true ≡ stays (Declined (pkt_number fault))
unread_stays (pkt.BadLength place) = refl
unread_stays (pkt.BadRecord place) = refl
unread_stays pkt.SizeMismatch = refl
unread_stays pkt.CutMessage = refl
unread_stays pkt.TooMany = refl
unread_stays pkt.TooLarge = refl

value_stays : (refusal : Refusal) → true ≡ stays (Declined (refusal_number refusal))
value_stays rev.Unknown = refl
value_stays rev.Ambiguous = refl
value_stays rev.TooShort = refl
value_stays rev.NoSuchParent = refl
value_stays rev.WrongKind = refl
value_stays rev.NoSuchPath = refl

up_by_answer : (e : SharedFault) → not (takes_down e) ≡ stays (fault_answer e)
up_by_answer (Unread fault) = unread_stays fault
up_by_answer (NotOurs id) = refl
up_by_answer Unexpected = refl
up_by_answer Busy = refl
up_by_answer NoSuchSlot = refl
up_by_answer (NoValue refusal) = value_stays refusal
up_by_answer (Node fault) = stays_by_fault fault

told_device : (fault : FilesFault) → Failed (failure_of fault) ≡ Failed DeviceFailed → fault ≡ files.Device
told_device files.Device is = refl
told_device files.Memory is = absurd (cc is)

refused_no_device : (n : ℕ) (a : Answer) → a ≡ Declined n → a ≡ Failed DeviceFailed → ⊥
refused_no_device n a declined failed = let both : Declined n ≡ Failed DeviceFailed = sym declined ∙ failed in cc both

-- ---- what is told
module _ {W : Type 0} (contents : W → Option (List ℕ)) (old new : W) where
  -- a fault is told as one
  failed_told : (e : SharedFault) (result : Result Served ServeFault) → TellsRefusal contents old new e result → fault_answer e ≡ Failed DeviceFailed → result ≡ Err (Fault files.Device)
  failed_told e (Ok (Refused n)) h is = absurd (refused_no_device n (fault_answer e) h.0 is)
  failed_told e (Ok Answered) h is = absurd h
  failed_told e (Ok End) h is = absurd h
  failed_told e (Err (Fault fault)) h is = ap (λ (f : FilesFault). Err (Fault f)) (told_device fault (sym h.0 ∙ is))
  failed_told e (Err Memory) h is = absurd (refused_no_device h.0.0 (fault_answer e) h.0.1 is)
  failed_told e (Err WriteFailed) h is = absurd (refused_no_device h.0 (fault_answer e) h.1 is)
  failed_told e (Err ReadFailed) h is = absurd h

  told_failed : (e : SharedFault) (result : Result Served ServeFault) (fault : FilesFault) → TellsRefusal contents old new e result → result ≡ Err (Fault fault) → fault_answer e ≡ Failed (failure_of fault)
  told_failed e result fault h is = (subst (λ (r : Result Served ServeFault). TellsRefusal contents old new e r) is h).0

  pub device_to : (answered : Reply) (result : Result Served ServeFault) → TellsAnswer contents old new answered result → TellsDevice answered → result ≡ Err (Fault files.Device)
  device_to (Ok found) result h never = absurd never
  device_to (Err Lost) result h never = absurd never
  device_to (Err (OfNode e)) result h device = elim (device_of e) [
    | inl failed ↦ failed_told e result h failed.1
    | inr none ↦ absurd (none.0 device)
  ]

  pub device_from : (answered : Reply) (result : Result Served ServeFault) → TellsAnswer contents old new answered result → result ≡ Err (Fault files.Device) → TellsDevice answered
  device_from (Ok (Some reply)) result h is = subst (λ (r : Result Served ServeFault). TellsAnswer contents old new (Ok (Some reply)) r) is h
  device_from (Ok None) result h is = absurd (let never : Ok End ≡ Err (Fault files.Device) = sym h.1 ∙ is in cc never)
  device_from (Err Lost) result h is = absurd (let never : ◌≡◌ {A = Result Served ServeFault} (Err ReadFailed) (Err (Fault files.Device)) = sym h.1 ∙ is in cc never)
  device_from (Err (OfNode e)) result h is = elim (device_of e) [
    | inl failed ↦ failed.0
    | inr none ↦ absurd (none.1 (told_failed e result files.Device h is))
  ]

  -- ---- a reader that failed
  -- it is told as that
  pub lost_to : (answered : Reply) (result : Result Served ServeFault) → TellsAnswer contents old new answered result → answered ≡ Err Lost → result ≡ Err ReadFailed
  lost_to (Ok found) result h is = absurd (cc is)
  lost_to (Err Lost) result h is = h.1
  lost_to (Err (OfNode e)) result h is = absurd (cc is)

  -- and nothing else is
  pub lost_from : (answered : Reply) (result : Result Served ServeFault) → TellsAnswer contents old new answered result → result ≡ Err ReadFailed → answered ≡ Err Lost
  lost_from (Ok (Some reply)) result h is = absurd (subst (λ (r : Result Served ServeFault). TellsAnswer contents old new (Ok (Some reply)) r) is h)
  lost_from (Ok None) result h is = absurd (let never : ◌≡◌ {A = Result Served ServeFault} (Ok End) (Err ReadFailed) = sym h.1 ∙ is in cc never)
  lost_from (Err Lost) result h is = refl
  lost_from (Err (OfNode e)) result h is = absurd (subst (λ (r : Result Served ServeFault). TellsRefusal contents old new e r) is h)

  -- ---- the node after it
  refusal_up : (e : SharedFault) (result : Result Served ServeFault) (is_up : Bool) → TellsRefusal contents old new e result → is_up ≡ not (takes_down e) → IsUpThen is_up result
  refusal_up e (Ok (Refused n)) is_up h up = up ∙ up_by_answer e ∙ ap stays h.0
  refusal_up e (Ok Answered) is_up h up = absurd h
  refusal_up e (Ok End) is_up h up = absurd h
  refusal_up e (Err (Fault fault)) is_up h up = up ∙ up_by_answer e ∙ ap stays h.0
  refusal_up e (Err Memory) is_up h up = tt
  refusal_up e (Err WriteFailed) is_up h up = tt
  refusal_up e (Err ReadFailed) is_up h up = absurd h

  -- it is as the answer has left it
  pub answer_up : (answered : Reply) (result : Result Served ServeFault) (is_up : Bool) → TellsAnswer contents old new answered result → is_up ≡ up_after answered → IsUpThen is_up result
  answer_up (Ok (Some reply)) (Ok Answered) is_up h up = up
  answer_up (Ok (Some reply)) (Ok (Refused n)) is_up h up = absurd h
  answer_up (Ok (Some reply)) (Ok End) is_up h up = absurd h
  answer_up (Ok (Some reply)) (Err (Fault fault)) is_up h up = absurd h
  answer_up (Ok (Some reply)) (Err Memory) is_up h up = absurd h
  answer_up (Ok (Some reply)) (Err WriteFailed) is_up h up = tt
  answer_up (Ok (Some reply)) (Err ReadFailed) is_up h up = absurd h
  answer_up (Ok None) result is_up h up = subst (λ (r : Result Served ServeFault). IsUpThen is_up r) (sym h.1) up
  answer_up (Err Lost) result is_up h up = subst (λ (r : Result Served ServeFault). IsUpThen is_up r) (sym h.1) up
  answer_up (Err (OfNode e)) result is_up h up = refusal_up e result is_up h up

  -- a fault ends the turn
  refusal_fails : (e : SharedFault) (result : Result Served ServeFault) → TellsRefusal contents old new e result → is_fault e ≡ true → turn_failed result ≡ true
  refusal_fails e (Ok (Refused n)) h failed = absurd (no_number e n failed h.0)
  refusal_fails e (Ok Answered) h failed = absurd h
  refusal_fails e (Ok End) h failed = absurd h
  refusal_fails e (Err (Fault fault)) h failed = refl
  refusal_fails e (Err Memory) h failed = absurd (no_number e h.0.0 failed h.0.1)
  refusal_fails e (Err WriteFailed) h failed = absurd (no_number e h.0 failed h.1)
  refusal_fails e (Err ReadFailed) h failed = absurd h

  pub answer_fails : (answered : Reply) (result : Result Served ServeFault) → TellsAnswer contents old new answered result → ends_in_fault answered ≡ true → turn_failed result ≡ true
  answer_fails (Ok found) result h failed = absurd (true≢false (sym failed))
  answer_fails (Err Lost) result h failed = absurd (true≢false (sym failed))
  answer_fails (Err (OfNode e)) result h failed = refusal_fails e result h failed

  -- ---- where something is told, what is behind the message is left
  refusal_leaves : (rest : List ℕ) (now : Option (List ℕ)) (e : SharedFault) (result : Result Served ServeFault) → TellsRefusal contents old new e result → (now ≡ Some rest) ⊎ (is_fault e ≡ true) → LeavesRest rest now result
  refusal_leaves rest now e result h (inl is) = by result h
    where
      by : (result : Result Served ServeFault) → TellsRefusal contents old new e result → LeavesRest rest now result
      by (Ok (Refused n)) h = is
      by (Ok Answered) h = is
      by (Ok End) h = absurd h
      by (Err (Fault fault)) h = tt
      by (Err Memory) h = tt
      by (Err WriteFailed) h = is
      by (Err ReadFailed) h = tt
  refusal_leaves rest now e result h (inr failed) = by result (refusal_fails e result h failed)
    where
      by : (result : Result Served ServeFault) → turn_failed result ≡ true → LeavesRest rest now result
      by (Ok served) ends = absurd (true≢false (sym ends))
      by (Err (Fault fault)) ends = tt
      by (Err Memory) ends = tt
      by (Err WriteFailed) ends = absurd (true≢false (sym ends))
      by (Err ReadFailed) ends = tt

  pub answer_leaves : (honest : Type 0) (was_up : Bool) (m : Message) (Answers : SharedCall → Type 0) (rest : List ℕ) (now : Option (List ℕ)) (answered : Reply) (result : Result Served ServeFault) → TellsAnswer contents old new answered result
      → IsKnown honest was_up m rest now Answers answered → LeavesRest rest now result
  answer_leaves honest was_up m Answers rest now (Ok (Some reply)) (Ok Answered) h known = known.0
  answer_leaves honest was_up m Answers rest now (Ok (Some reply)) (Ok (Refused n)) h known = absurd h
  answer_leaves honest was_up m Answers rest now (Ok (Some reply)) (Ok End) h known = absurd h
  answer_leaves honest was_up m Answers rest now (Ok (Some reply)) (Err (Fault fault)) h known = tt
  answer_leaves honest was_up m Answers rest now (Ok (Some reply)) (Err Memory) h known = tt
  answer_leaves honest was_up m Answers rest now (Ok (Some reply)) (Err WriteFailed) h known = known.0
  answer_leaves honest was_up m Answers rest now (Ok (Some reply)) (Err ReadFailed) h known = tt
  answer_leaves honest was_up m Answers rest now (Ok None) result h known = absurd known
  answer_leaves honest was_up m Answers rest now (Err Lost) result h known = subst (λ (r : Result Served ServeFault). LeavesRest rest now r) (sym h.1) tt
  answer_leaves honest was_up m Answers rest now (Err (OfNode e)) result h known = refusal_leaves rest now e result h known.0
