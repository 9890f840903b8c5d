-- What a step of a push is refused for.
use Rattle.std.specs.Prelude.{⊤, ℕ, string_bytes}
use Rattle.vc_files.specs.FileMap.{FileMap}
use Rattle.vc_refs.specs.Refs.{IsBadRef}
use Rattle.vc_refs.specs.declared.changes.SetAllFault.{SetAllFault}
use Rattle.vc_refs.specs.declared.changes.SetAllFault.TheVariants.{At, Whole}
use Rattle.vc_refs.specs.declared.faults.RefFault.{RefFault}
use Rattle.vc_refs.specs.declared.faults.RefFault.TheVariants as of_refs
use Rattle.vc_object_map.specs.declared.faults.StoreFault.{StoreFault}
use Rattle.vc_object_map.specs.declared.faults.StoreFault.TheVariants as of_store
use Rattle.vc_quarantine.specs.Blames.{BlamesDamage, BlamesMigration}
use Rattle.vc_push_rules.specs.Session.{SessionText}
use Rattle.vc_push_rules.specs.declared.stage.Stage.{Stage}
use Rattle.vc_push_rules.specs.declared.stage.Stage.TheVariants.{Unpacked, Checked, Migrated, Done}
use Rattle.vc_session.specs.declared.fault.SessionFault.{SessionFault}
use Rattle.vc_session.specs.declared.fault.SessionFault.TheVariants.{Store, Refs, Fault}

-- what the layers below refuse, told here; a fault is told as one
abbrev pub from_store : StoreFault → SessionFault
from_store (of_store.BadObject fault) = Store (of_store.BadObject fault)
from_store (of_store.Absent id) = Store (of_store.Absent id)
from_store (of_store.Damaged id) = Store (of_store.Damaged id)
from_store (of_store.Fault fault) = Fault fault

abbrev pub from_refs : RefFault → SessionFault
from_refs (of_refs.Stale current) = Refs (of_refs.Stale current)
from_refs (of_refs.Conflict name) = Refs (of_refs.Conflict name)
from_refs (of_refs.BadRefFile path) = Refs (of_refs.BadRefFile path)
from_refs of_refs.HeadLoop = Refs of_refs.HeadLoop
from_refs (of_refs.Fault fault) = Fault fault

-- a file of the refs can't be read
abbrev pub BlamesRefs : FileMap → RefFault → Type 0
BlamesRefs content (of_refs.Stale current) = ⊥
BlamesRefs content (of_refs.Conflict name) = ⊥
BlamesRefs content (of_refs.BadRefFile path) = IsBadRef content (string_bytes path)
BlamesRefs content of_refs.HeadLoop = ⊥
BlamesRefs content (of_refs.Fault fault) = ⊥

-- why the check may be refused
abbrev pub IsRefusedCheck : FileMap → ℕ → SessionFault → Type 0
IsRefusedCheck content slot (Store fault) = BlamesDamage content slot fault
IsRefusedCheck content slot (Refs fault) = BlamesRefs content fault
IsRefusedCheck content slot (Fault fault) = ⊤

-- what refuses several refs that are to be set at once, told here; a change that is refused by itself is told as it is
abbrev pub from_set : SetAllFault → SessionFault
from_set (At place fault) = Refs fault
from_set (Whole fault) = from_refs fault

-- why the update of an atomic push may be refused
abbrev pub IsRefusedUpdate : FileMap → SessionFault → Type 0
IsRefusedUpdate content (Store fault) = ⊥
IsRefusedUpdate content (Refs fault) = BlamesRefs content fault
IsRefusedUpdate content (Fault fault) = ⊤

-- why a step may be refused, over the files and the session before it, by its stage
abbrev pub IsRefusedStep : FileMap → SessionText → Stage → SessionFault → Type 0
IsRefusedStep content s stage (Fault fault) = ⊤
IsRefusedStep content s Unpacked e = IsRefusedCheck content s.slot e
IsRefusedStep content s Checked (Store fault) = BlamesMigration content s.slot s.names fault
IsRefusedStep content s Checked (Refs fault) = ⊥
IsRefusedStep content s Migrated (Store fault) = ⊥
IsRefusedStep content s Migrated (Refs fault) = BlamesRefs content fault
IsRefusedStep content s Done e = ⊥
