-- What a refusal of this crate says of the objects.
use Rattle.std.specs.Prelude.{◌≡◌, ◌⊎◌, ℕ, List, Option, None, IsSome}
use Rattle.vc_object_map.specs.Graph.{ReachedFrom}
use Rattle.vc_object_map.specs.StoreFault.{IsMet}
use Rattle.vc_object.specs.ObjectMap.{ObjectMap, links_in, parents_in}
use Rattle.vc_object.specs.declared.id.ObjectId.{ObjectId}
use Rattle.vc_object_map.specs.declared.faults.StoreFault.{StoreFault}
use Rattle.vc_history.specs.Generation.{Agrees}
use Rattle.vc_object_map.specs.Parents.{IsOther}
use Rattle.vc_history.specs.declared.fault.HistoryFault.{HistoryFault}
use Rattle.vc_history.specs.declared.fault.HistoryFault.TheVariants.{Missing, NotACommit, Store}

-- what a walk over the parents among objects, from these roots, may answer in place of names: a fault, or that a name that it met is
-- damaged
abbrev pub IsMetInHistory : ObjectMap → (ObjectId → Type 0) → List ObjectId → StoreFault → Type 0
IsMetInHistory objects IsDamaged roots fault = IsMet (ReachedFrom (parents_in objects) roots) IsDamaged fault

-- the same of two walks, over the links and over the parents
abbrev pub IsMetInEither : ObjectMap → (ObjectId → Type 0) → List ObjectId → StoreFault → Type 0
IsMetInEither objects IsDamaged roots fault = IsMet (λ id. ReachedFrom (links_in objects) roots id ⊎ ReachedFrom (parents_in objects) roots id) IsDamaged fault

-- the name is a root or an ancestor of one: it is absent; or it is no commit, and no ancestor is absent; or it is damaged
abbrev pub IsTold : ObjectMap → (ObjectId → Type 0) → List ObjectId → HistoryFault → Type 0
IsTold objects IsDamaged roots (Missing id) = ReachedFrom (parents_in objects) roots id × (objects id ≡ None)
IsTold objects IsDamaged roots (NotACommit id) = ReachedFrom (parents_in objects) roots id × IsOther objects id
    × ((y : ObjectId) → ReachedFrom (parents_in objects) roots y → IsSome (objects y))
IsTold objects IsDamaged roots (Store fault) = IsMetInHistory objects IsDamaged roots fault

-- the same, where what is known of generations is right
abbrev pub IsToldWhereRight : ObjectMap → (ObjectId → Type 0) → (ObjectId → Option ℕ) → List ObjectId → HistoryFault → Type 0
IsToldWhereRight objects IsDamaged known roots e = Agrees (parents_in objects) known → IsTold objects IsDamaged roots e

-- what one step of a walk may answer of the name that it reads: that it is absent or damaged, or a fault
abbrev pub IsOfNext : ObjectMap → (ObjectId → Type 0) → (ObjectId → Type 0) → HistoryFault → Type 0
IsOfNext objects IsDamaged IsNext (Missing id) = IsNext id × (objects id ≡ None)
IsOfNext objects IsDamaged IsNext (NotACommit id) = ⊥
IsOfNext objects IsDamaged IsNext (Store fault) = IsMet IsNext IsDamaged fault
