-- A fault of a push's step, as the node tells it: what it says of the device, and what is refused by it.
use Rattle.std.proofs.Common.{◌≡◌, ◌⊎◌, ℕ, Option, Result, Err, refl, sym, true≢false}
use Rattle.std.specs.Prelude.{IsErrAnd, IsErrOf}
use Rattle.vc_files.specs.Failures.{Wears, Writes}
use Rattle.vc_files.specs.FileMap.{FileMap}
use Rattle.vc_files.specs.declared.faults.Fault.TheVariants.{Device, Memory}
use Rattle.vc_local.proofs.FaultLemmas.{looks_by, refs_calm, store_calm, writes_by}
use Rattle.vc_push_rules.specs.Session.{SessionText}
use Rattle.vc_session.specs.SessionFault.{IsRefusedStep}
use Rattle.vc_session.specs.declared.fault.SessionFault.{SessionFault}
use Rattle.vc_session.specs.declared.fault.SessionFault.TheVariants as session
use Rattle.vc_push_rules.specs.declared.stage.Stage.{Stage}
use Rattle.vc_push_rules.specs.declared.stage.Stage.TheVariants.{Unpacked, Checked, Migrated, Done}
use Rattle.vc_shared.specs.Faults.{IsOfDevice, TellsDevice, of_session}
use Rattle.vc_shared.specs.declared.fault.SharedFault.{SharedFault}

-- ---- the device
device_alone : (e : SessionFault) → IsOfDevice (of_session e) → e ≡ session.Fault Device
device_alone (session.Store e) told = absurd (store_calm e told)
device_alone (session.Refs e) told = absurd (refs_calm e told)
device_alone (session.Fault Memory) told = absurd (true≢false (sym told))
device_alone (session.Fault Device) told = refl

module _ {X T : Type 0} (r : Result X SessionFault) (e : SessionFault) (was : r ≡ Err e) where
  -- a session's fault of the device is the node's
  pub writes_as : {D : Type 0} {honest : Type 0} {content : D → FileMap} {failed : D → ℕ} {can_fail : D → Type 0} {left : D → Option ℕ} {old new : D} (q : Result T SharedFault) → IsErrAnd q (λ x. x ≡ of_session e)
      → Writes honest content failed can_fail left old new (IsErrOf r (session.Fault Device)) → Writes honest content failed can_fail left old new (TellsDevice q)
  writes_as q is w = writes_by IsOfDevice of_session (session.Fault Device) device_alone refl r e was q is w

  pub looks_as : {D : Type 0} {failed : D → ℕ} {can_fail : D → Type 0} {left : D → Option ℕ} {old new : D} {May : Type 0} (q : Result T SharedFault) → IsErrAnd q (λ x. x ≡ of_session e)
      → May ⊎ Wears failed can_fail left old new (IsErrOf r (session.Fault Device)) → May ⊎ Wears failed can_fail left old new (TellsDevice q)
  looks_as q is may = looks_by IsOfDevice of_session (session.Fault Device) device_alone refl r e was q is may

-- ---- what is told
-- any step may want for memory
pub memory_refused : (content : FileMap) (s : SessionText) (stage : Stage) → IsRefusedStep content s stage (session.Fault Memory)
memory_refused content s Unpacked = tt
memory_refused content s Checked = tt
memory_refused content s Migrated = tt
memory_refused content s Done = tt
