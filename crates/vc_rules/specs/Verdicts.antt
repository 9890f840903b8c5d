-- The verdict on a command at its check, as the machine has it and as it is judged over objects.
use Rattle.std.specs.Prelude.{◌≡◌, ◌↔◌, Option, Some, None, option_map}
use Rattle.vc_format.specs.Git.{id_of_bytes}
use Rattle.vc_model.specs.Object.{Id, Lookup}
use Rattle.vc_model.specs.Push as machine
use Rattle.vc_model.specs.Push.Reason.{BadName as MachineBadName, OutsideRefs as MachineOutsideRefs, Deletion as MachineDeletion, MissingObjects as MachineMissingObjects, NotACommit as MachineNotACommit, NonFastForward as MachineNonFastForward, AlreadyExists as MachineAlreadyExists, NameConflict as MachineNameConflict, Stale as MachineStale, UnpackerError as MachineUnpackerError, AtomicFailure as MachineAtomicFailure}
use Rattle.vc_model.specs.Push.Verdict.{Passing, Refused}
use Rattle.vc_object.specs.Decoding.{StoredObject}
use Rattle.vc_object.specs.Object.{IsObject}
use Rattle.vc_object.specs.ObjectMap.{ObjectMap}
use Rattle.vc_object.specs.declared.id.ObjectId.{ObjectId}
use Rattle.vc_push.specs.Push.{CommandText}
use Rattle.vc_push.specs.declared.reason.Reason.{Reason}
use Rattle.vc_push.specs.declared.reason.Reason.TheVariants.{BadName, OutsideRefs, DeletionProhibited, MissingObjects, NotACommit, NonFastForward, AlreadyExists, NameConflict, Stale, UnpackerError, AtomicFailure}
use Rattle.vc_push_rules.specs.Verdict.{CheckNeeds, IsVerdictAtCheck}
use Rattle.vc_rules.specs.Git.{git, stored_of}

-- what the machine finds under a name is what stands there, and each object that stands there is one
pub record AreFoundAt (objects : ObjectMap) (at : Lookup) : Type 0 where
  pub same : (x : Id) → objects (id_of_bytes x) ≡ option_map stored_of (at x)
  pub sound : (id : ObjectId) (o : StoredObject) → objects id ≡ Some o → IsObject o.kind o.body

abbrev pub machine_reason : Reason → machine.Reason
machine_reason BadName = MachineBadName
machine_reason OutsideRefs = MachineOutsideRefs
machine_reason DeletionProhibited = MachineDeletion
machine_reason MissingObjects = MachineMissingObjects
machine_reason NotACommit = MachineNotACommit
machine_reason NonFastForward = MachineNonFastForward
machine_reason AlreadyExists = MachineAlreadyExists
machine_reason NameConflict = MachineNameConflict
machine_reason Stale = MachineStale
machine_reason UnpackerError = MachineUnpackerError
machine_reason AtomicFailure = MachineAtomicFailure

abbrev pub machine_command : CommandText → machine.Command
machine_command c = record { old = c.old.0; new = c.new.0; name = c.name }

abbrev pub machine_verdict : Option Reason → machine.Verdict
machine_verdict None = Passing
machine_verdict (Some r) = Refused (machine_reason r)

-- what the check asks of a command is what the machine asks, reason by reason
abbrev pub CheckNeedsAgree : Type 0
CheckNeedsAgree = (objects : ObjectMap) (at : Lookup) (c : CommandText) (r : Reason) → AreFoundAt objects at →
    CheckNeeds objects c r ↔ machine.CheckNeeds git at (machine_command c) (machine_reason r)

-- so what is judged is what the machine makes of a command that had no verdict
abbrev pub ChecksAgree : Type 0
ChecksAgree = (objects : ObjectMap) (at : Lookup) (c : CommandText) (found : Option Reason) → AreFoundAt objects at →
    IsVerdictAtCheck objects c found → machine.Checks git at (machine_command c) Passing (machine_verdict found)
