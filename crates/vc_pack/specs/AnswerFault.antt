-- What a refusal of this crate says of the node.
use Rattle.std.specs.Prelude.{◌≡◌, ◌⊎◌, ⊤, List, None, codes, string_bytes}
use Rattle.vc_files.specs.FileMap.{FileMap}
use Rattle.vc_object.specs.ObjectMap.{ObjectMap, links_in}
use Rattle.vc_object.specs.declared.id.ObjectId.{ObjectId}
use Rattle.vc_object_map.specs.Graph.{ReachedFrom}
use Rattle.vc_graph.specs.Incomplete.{IsFirstIncomplete}
use Rattle.vc_object_map.specs.Overlay.{with_carried}
use Rattle.vc_graph.specs.declared.fault.GraphFault.{GraphFault}
use Rattle.vc_graph.specs.declared.fault.GraphFault.TheVariants.{Missing, Store}
use Rattle.vc_refs.specs.Head.{IsHeadLoop, IsBadHead}
use Rattle.vc_refs.specs.RefFault.{IsFirstBadRef}
use Rattle.vc_refs.specs.declared.faults.RefFault.{RefFault}
use Rattle.vc_refs.specs.declared.faults.RefFault.TheVariants as of_refs
use Rattle.vc_object_map.specs.Store.{objects, IsDamaged}
use Rattle.vc_object_map.specs.declared.faults.StoreFault.{StoreFault}
use Rattle.vc_object_map.specs.declared.faults.StoreFault.TheVariants as of_store
use Rattle.vc_pack.specs.Answer.{IsOurs, IsNotOurs}
use Rattle.vc_pack.specs.Picked.{IsFirst}
use Rattle.vc_pack.specs.declared.fault.AnswerFault.{AnswerFault}
use Rattle.vc_pack.specs.declared.fault.AnswerFault.TheVariants.{NotOurs, Incomplete, Refs, Graph, Fault}

-- what lower layers refuse, told here; a fault is told as one
abbrev pub from_store : StoreFault → AnswerFault
from_store (of_store.BadObject fault) = Graph (Store (of_store.BadObject fault))
from_store (of_store.Absent id) = Graph (Store (of_store.Absent id))
from_store (of_store.Damaged id) = Graph (Store (of_store.Damaged id))
from_store (of_store.Fault fault) = Fault fault

abbrev pub from_graph : GraphFault → AnswerFault
from_graph (Missing id) = Graph (Missing id)
from_graph (Store fault) = from_store fault

abbrev pub from_refs : RefFault → AnswerFault
from_refs (of_refs.Stale current) = Refs (of_refs.Stale current)
from_refs (of_refs.Conflict name) = Refs (of_refs.Conflict name)
from_refs (of_refs.BadRefFile path) = Refs (of_refs.BadRefFile path)
from_refs of_refs.HeadLoop = Refs of_refs.HeadLoop
from_refs (of_refs.Fault fault) = Fault fault

-- a file in `refs/` stands for no ref, or HEAD's file for no HEAD
abbrev pub BlamesRefs : FileMap → RefFault → Type 0
BlamesRefs content (of_refs.BadRefFile path) = IsFirstBadRef content (string_bytes path) ⊎ ((string_bytes path ≡ codes "HEAD") × IsBadHead content)
BlamesRefs content of_refs.HeadLoop = IsHeadLoop content
BlamesRefs content _ = ⊥

-- a name that is met is absent, or its file is damaged
abbrev pub BlamesObject : (ObjectId → Type 0) → ObjectMap → (ObjectId → Type 0) → GraphFault → Type 0
BlamesObject Meets objects Damage (Missing id) = Meets id × (objects id ≡ None)
BlamesObject Meets objects Damage (Store (of_store.Damaged id)) = Meets id × Damage id
BlamesObject Meets objects Damage (Store _) = ⊥

-- what the node's own files say against a walk that meets these names
abbrev pub IsRefusedWalk : (ObjectId → Type 0) → FileMap → AnswerFault → Type 0
IsRefusedWalk Meets content (NotOurs id) = ⊥
IsRefusedWalk Meets content (Incomplete id) = ⊥
IsRefusedWalk Meets content (Refs fault) = BlamesRefs content fault
IsRefusedWalk Meets content (Graph fault) = BlamesObject Meets (objects content) (IsDamaged content) fault
IsRefusedWalk Meets content (Fault fault) = ⊤

-- why wants have no answer: the first that no ref reaches, or what the node's own files say
abbrev pub IsRefusedAnswer : FileMap → List ObjectId → AnswerFault → Type 0
IsRefusedAnswer content wants (NotOurs id) = IsFirst (IsNotOurs content) (IsOurs content) wants id
IsRefusedAnswer content wants (Incomplete id) = ⊥
IsRefusedAnswer content wants (Refs fault) = BlamesRefs content fault
IsRefusedAnswer content wants (Graph fault) = BlamesObject (IsOurs content) (objects content) (IsDamaged content) fault
IsRefusedAnswer content wants (Fault fault) = ⊤

-- a name that is met is damaged
abbrev pub BlamesDamage : (ObjectId → Type 0) → (ObjectId → Type 0) → GraphFault → Type 0
BlamesDamage Meets Damage (Store (of_store.Damaged id)) = Meets id × Damage id
BlamesDamage Meets Damage _ = ⊥

-- why a pack that carries these objects is not taken: the first want that stays incomplete, or a damaged file
abbrev pub IsRefusedPack : FileMap → ObjectMap → List ObjectId → AnswerFault → Type 0
IsRefusedPack content carried wants (NotOurs id) = ⊥
IsRefusedPack content carried wants (Incomplete id) = IsFirstIncomplete (links_in (with_carried (objects content) carried)) wants id
IsRefusedPack content carried wants (Refs fault) = ⊥
IsRefusedPack content carried wants (Graph fault) = BlamesDamage (ReachedFrom (links_in (with_carried (objects content) carried)) wants) (IsDamaged content) fault
IsRefusedPack content carried wants (Fault fault) = ⊤
