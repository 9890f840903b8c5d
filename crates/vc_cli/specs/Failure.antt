-- What a failure of a command means for its exit status.
use Rattle.std.specs.Prelude.{ℕ, ⊤, if◌then◌else◌, IsTrue, Result, IsErrAnd}
use Rattle.vc_history.specs.declared.fault.HistoryFault.TheVariants.{Store as HistoryStore}
use Rattle.vc_refs.specs.declared.faults.RefFault.TheVariants.{Fault as RefFaulted}
use Rattle.vc_expression.specs.declared.fault.ParseFault.TheVariants.{Memory}
use Rattle.vc_rev.specs.declared.refusal.RevFault.{RevFault}
use Rattle.vc_rev.specs.declared.refusal.RevFault.TheVariants.{Source}
use Rattle.vc_rev.specs.declared.refusal.SourceFault.{SourceFault}
use Rattle.vc_rev.specs.declared.refusal.SourceFault.TheVariants as sources
use Rattle.vc_object_map.specs.declared.faults.StoreFault.{StoreFault}
use Rattle.vc_object_map.specs.declared.faults.StoreFault.TheVariants.{Fault as StoreFaulted}
use Rattle.vc_checkout.specs.declared.faults.CheckoutFault.{CheckoutFault}
use Rattle.vc_checkout.specs.declared.faults.CheckoutFault.TheVariants as checkouts
use Rattle.vc_local.specs.NodeFault.{IsOfDevice as IsOfNodeDevice, is_device, is_fault, of_index}
use Rattle.vc_local.specs.declared.fault.NodeFault.{NodeFault}
use Rattle.vc_cli.specs.declared.failure.Failure.{Failure}
use Rattle.vc_cli.specs.declared.failure.Failure.TheVariants.{Store, History, Refs, Usage, Fault, Syntax, Revision, Node, LocalChange, InTheWay, BadPath, NotText}

-- want of memory, or a device that failed
abbrev pub IsFault : Failure → Type 0
IsFault (Fault fault) = ⊤
IsFault _ = ⊥

-- a device failed
abbrev pub IsOfStoreDevice : StoreFault → Type 0
IsOfStoreDevice (StoreFaulted fault) = IsTrue (is_device fault)
IsOfStoreDevice _ = ⊥

abbrev pub IsOfDevice : Failure → Type 0
IsOfDevice (Fault fault) = IsTrue (is_device fault)
IsOfDevice (Store fault) = IsOfStoreDevice fault
IsOfDevice (History (HistoryStore fault)) = IsOfStoreDevice fault
IsOfDevice (Refs (RefFaulted fault)) = IsTrue (is_device fault)
IsOfDevice (Revision (Source (sources.Store fault))) = IsOfStoreDevice fault
IsOfDevice (Node fault) = IsOfNodeDevice fault
IsOfDevice _ = ⊥

-- a command tells that one failed
abbrev pub TellsDevice : {T : Type 0} → Result T Failure → Type 0
TellsDevice result = IsErrAnd result IsOfDevice

-- The same of a command that reads a stream or prints: what it tells as a fault of its own may be the stream's, of which nothing is
-- known. What the files tell stands in a layer's fault.
abbrev pub IsOfFiles : Failure → Type 0
IsOfFiles (Fault fault) = ⊥
IsOfFiles failure = IsOfDevice failure

abbrev pub TellsOfFiles : {T : Type 0} → Result T Failure → Type 0
TellsOfFiles result = IsErrAnd result IsOfFiles

-- a fault of memory or device is 3, and every refusal 1
abbrev pub store_status : StoreFault → ℕ
store_status (StoreFaulted fault) = 3
store_status _ = 1

abbrev pub source_status : SourceFault → ℕ
source_status (sources.Store fault) = store_status fault
source_status _ = 1

abbrev pub revision_status : RevFault → ℕ
revision_status (Source fault) = source_status fault
revision_status _ = 1

abbrev pub node_status : NodeFault → ℕ
node_status fault = if is_fault fault then 3 else 1

-- 2 where the command line is off, 3 at a fault, and 1 where the command was refused
abbrev pub status_of : Failure → ℕ
status_of (Usage text) = 2
status_of (Fault fault) = 3
status_of (Syntax Memory) = 3
status_of (Revision fault) = revision_status fault
status_of (Node fault) = node_status fault
status_of (Store (StoreFaulted fault)) = 3
status_of (History (HistoryStore (StoreFaulted fault))) = 3
status_of (Refs (RefFaulted fault)) = 3
status_of _ = 1

-- what refuses a checkout, or ends it, as a failure of a command
abbrev pub of_checkout : CheckoutFault → Failure
of_checkout (checkouts.LocalChange path) = LocalChange path
of_checkout (checkouts.InTheWay path) = InTheWay path
of_checkout (checkouts.BadPath path) = BadPath path
of_checkout (checkouts.NotText path) = NotText path
of_checkout (checkouts.Index fault) = Node (of_index fault)
