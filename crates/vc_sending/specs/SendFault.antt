-- What a refusal of a push says of the clone's files, before anything is sent.
use Rattle.std.specs.Prelude.{◌≡◌, ◌⊎◌, ◌≤◌, ◌<◌, ⊤, List, None, length, string_bytes}
use Rattle.vc_sending.specs.Sending.{IsKnown, item_ids}
use Rattle.vc_sending.specs.declared.item.PushItem.{PushItem}
use Rattle.vc_sending.specs.declared.send_fault.SendFault.{SendFault}
use Rattle.vc_sending.specs.declared.send_fault.SendFault.TheVariants.{TooMany, Missing, Refs, Graph, Fault}
use Rattle.vc_files.specs.FileMap.{FileMap}
use Rattle.vc_object_map.specs.Graph.{ReachedFrom}
use Rattle.vc_graph.specs.Incomplete.{IsFirstIncomplete}
use Rattle.vc_graph.specs.declared.fault.GraphFault.{GraphFault}
use Rattle.vc_graph.specs.declared.fault.GraphFault.TheVariants as graph
use Rattle.vc_object.specs.ObjectMap.{links_in}
use Rattle.vc_object.specs.declared.id.ObjectId.{ObjectId}
use Rattle.vc_refs.specs.Refs.{IsBadRef}
use Rattle.vc_refs.specs.declared.faults.RefFault.{RefFault}
use Rattle.vc_refs.specs.declared.faults.RefFault.TheVariants as of_refs
use Rattle.vc_object_map.specs.Store.{objects, IsDamaged}
use Rattle.vc_object_map.specs.declared.faults.StoreFault.{StoreFault}
use Rattle.vc_object_map.specs.declared.faults.StoreFault.TheVariants as of_store
use Rattle.vc_push.specs.Push.{max_commands}

-- what lower layers refuse, told here; a fault is told as one
abbrev pub from_store : StoreFault → SendFault
from_store (of_store.BadObject fault) = Graph (graph.Store (of_store.BadObject fault))
from_store (of_store.Absent id) = Graph (graph.Store (of_store.Absent id))
from_store (of_store.Damaged id) = Graph (graph.Store (of_store.Damaged id))
from_store (of_store.Fault fault) = Fault fault

abbrev pub from_graph : GraphFault → SendFault
from_graph (graph.Missing id) = Graph (graph.Missing id)
from_graph (graph.Store fault) = from_store fault

abbrev pub from_refs : RefFault → SendFault
from_refs (of_refs.Stale current) = Refs (of_refs.Stale current)
from_refs (of_refs.Conflict name) = Refs (of_refs.Conflict name)
from_refs (of_refs.BadRefFile path) = Refs (of_refs.BadRefFile path)
from_refs of_refs.HeadLoop = Refs of_refs.HeadLoop
from_refs (of_refs.Fault fault) = Fault fault

-- a file in `refs/` stands for no ref
abbrev pub BlamesRefFile : FileMap → RefFault → Type 0
BlamesRefFile content (of_refs.Stale current) = ⊥
BlamesRefFile content (of_refs.Conflict name) = ⊥
BlamesRefFile content (of_refs.BadRefFile path) = IsBadRef content (string_bytes path)
BlamesRefFile content of_refs.HeadLoop = ⊥
BlamesRefFile content (of_refs.Fault fault) = ⊤

-- a tracking ref reaches a name that is absent, or a name that is met is damaged
abbrev pub BlamesObject : FileMap → List ObjectId → GraphFault → Type 0
BlamesObject content ids (graph.Missing id) = IsKnown content id × (objects content id ≡ None)
BlamesObject content ids (graph.Store (of_store.Damaged id)) = (ReachedFrom (links_in (objects content)) ids id ⊎ IsKnown content id) × IsDamaged content id
BlamesObject content ids (graph.Store _) = ⊥

-- why these ids are not sent: the first of them that is incomplete, or what the clone's own files say
abbrev pub IsRefusedSend : FileMap → List ObjectId → SendFault → Type 0
IsRefusedSend content ids TooMany = ⊥
IsRefusedSend content ids (Missing id) = IsFirstIncomplete (links_in (objects content)) ids id
IsRefusedSend content ids (Refs fault) = BlamesRefFile content fault
IsRefusedSend content ids (Graph fault) = BlamesObject content ids fault
IsRefusedSend content ids (Fault fault) = ⊤

-- why a push of these items is not sent: there are too many, or that
abbrev pub IsRefusedPush : FileMap → List PushItem → SendFault → Type 0
IsRefusedPush content items TooMany = max_commands < length items
IsRefusedPush content items (Missing id) = (length items ≤ max_commands) × IsRefusedSend content (item_ids items) (Missing id)
IsRefusedPush content items (Refs fault) = IsRefusedSend content (item_ids items) (Refs fault)
IsRefusedPush content items (Graph fault) = IsRefusedSend content (item_ids items) (Graph fault)
IsRefusedPush content items (Fault fault) = ⊤
