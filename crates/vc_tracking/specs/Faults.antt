-- What an exchange is refused for.
use Rattle.std.specs.Prelude.{⊤, ℕ, Option, Result, IsErrOf, string_bytes}
use Rattle.vc_pack.specs.declared.fault.AnswerFault.{AnswerFault}
use Rattle.vc_pack.specs.declared.fault.AnswerFault.TheVariants as answer
use Rattle.vc_files.specs.Failures.{Wears}
use Rattle.vc_files.specs.FileMap.{FileMap}
use Rattle.vc_files.specs.declared.faults.Fault.TheVariants.{Device}
use Rattle.vc_graph.specs.declared.fault.GraphFault.{GraphFault}
use Rattle.vc_graph.specs.declared.fault.GraphFault.TheVariants as graph
use Rattle.vc_refs.specs.Refs.{IsBadRef}
use Rattle.vc_refs.specs.declared.faults.RefFault.{RefFault}
use Rattle.vc_refs.specs.declared.faults.RefFault.TheVariants as of_refs
use Rattle.vc_object_map.specs.Store.{IsDamaged}
use Rattle.vc_object_map.specs.declared.faults.StoreFault.{StoreFault}
use Rattle.vc_object_map.specs.declared.faults.StoreFault.TheVariants as of_store
use Rattle.vc_tracking.specs.declared.fault.ExchangeFault.{ExchangeFault}
use Rattle.vc_tracking.specs.declared.fault.ExchangeFault.TheVariants.{Store, Refs, Incomplete, Fault}

-- what the layers below refuse, told here; a fault is told as one
abbrev pub from_store : StoreFault → ExchangeFault
from_store (of_store.BadObject fault) = Store (of_store.BadObject fault)
from_store (of_store.Absent id) = Store (of_store.Absent id)
from_store (of_store.Damaged id) = Store (of_store.Damaged id)
from_store (of_store.Fault fault) = Fault fault

abbrev pub from_refs : RefFault → ExchangeFault
from_refs (of_refs.Stale current) = Refs (of_refs.Stale current)
from_refs (of_refs.Conflict name) = Refs (of_refs.Conflict name)
from_refs (of_refs.BadRefFile path) = Refs (of_refs.BadRefFile path)
from_refs of_refs.HeadLoop = Refs of_refs.HeadLoop
from_refs (of_refs.Fault fault) = Fault fault

-- a pack is judged by what it should bring alone: of an answer's other refusals none comes; what is told of files stays as it is
abbrev pub from_graph : GraphFault → ExchangeFault
from_graph (graph.Missing id) = Incomplete id
from_graph (graph.Store fault) = Store fault

abbrev pub from_answer : AnswerFault → ExchangeFault
from_answer (answer.NotOurs id) = Incomplete id
from_answer (answer.Incomplete id) = Incomplete id
from_answer (answer.Refs fault) = Refs fault
from_answer (answer.Graph fault) = from_graph fault
from_answer (answer.Fault fault) = Fault fault

-- the file of an object is damaged
abbrev pub BlamesObjects : FileMap → StoreFault → Type 0
BlamesObjects content (of_store.BadObject fault) = ⊥
BlamesObjects content (of_store.Absent id) = ⊥
BlamesObjects content (of_store.Damaged id) = IsDamaged content id
BlamesObjects content (of_store.Fault fault) = ⊤

-- a file in `refs/` is none of a ref
abbrev pub BlamesRefs : FileMap → RefFault → Type 0
BlamesRefs content (of_refs.Stale current) = ⊥
BlamesRefs content (of_refs.Conflict name) = ⊥
BlamesRefs content (of_refs.BadRefFile path) = IsBadRef content (string_bytes path)
BlamesRefs content of_refs.HeadLoop = ⊥
BlamesRefs content (of_refs.Fault fault) = ⊤

-- a file of the clone is bad, or memory or the device is at fault
abbrev pub BlamesFiles : FileMap → ExchangeFault → Type 0
BlamesFiles content (Store fault) = BlamesObjects content fault
BlamesFiles content (Refs fault) = BlamesRefs content fault
BlamesFiles content (Incomplete id) = ⊥
BlamesFiles content (Fault fault) = ⊤

-- the device is only looked at, as it may be where a call ends that is refused, or that changes nothing
abbrev pub Looks : {F T : Type 0} → (F → ℕ) → (F → Type 0) → (F → Option ℕ) → F → F → Result T ExchangeFault → Type 0
Looks failed can_fail left old new result = Wears failed can_fail left old new (IsErrOf result (Fault Device))
