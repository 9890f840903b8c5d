-- What is so of a set of objects whose commits have the right numbers.
use Rattle.std.specs.Prelude.{◌≡◌, ℕ, List, Option, Some}
use Rattle.vc_history.specs.HistoryFault.{IsToldWhereRight}
use Rattle.vc_history.specs.Generation.{Agrees, HasGeneration}
use Rattle.vc_history.specs.Numbering.{numbers}
use Rattle.vc_history.specs.declared.fault.HistoryFault.{HistoryFault}
use Rattle.vc_history.specs.declared.generations.Generations.{Generations}
use Rattle.vc_object.specs.Decoding.{StoredObject}
use Rattle.vc_object.specs.ObjectMap.{ObjectMap, parents_in}
use Rattle.vc_object.specs.declared.id.ObjectId.{ObjectId}

-- the commit has this generation among the objects
abbrev pub IsGeneration : ObjectMap → ObjectId → ℕ → Type 0
IsGeneration objects id n = HasGeneration (parents_in objects) id n

-- the numbers are right among the objects
abbrev pub AgreesWith : ObjectMap → Generations → Type 0
AgreesWith objects generations = Agrees (parents_in objects) (numbers generations)

-- where they are, this is so of the parents
abbrev pub WhereRight : ObjectMap → Generations → ((ObjectId → Option (List ObjectId)) → Type 0) → Type 0
WhereRight objects generations IsSo = AgreesWith objects generations → IsSo (parents_in objects)

-- the same of what a refusal tells, over what `objects` gives of this state; `damaged` gives the names that may be damaged
abbrev pub TellsWhereRight : {State : Type 0} → (State → ObjectMap) → (State → ObjectId → Type 0) → State → Generations → List ObjectId → HistoryFault → Type 0
TellsWhereRight objects damaged state generations roots e = IsToldWhereRight (objects state) (damaged state) (numbers generations) roots e

-- each of the objects is one of more
abbrev pub AreAllIn : ObjectMap → ObjectMap → Type 0
AreAllIn more objects = (id : ObjectId) (o : StoredObject) → objects id ≡ Some o → more id ≡ Some o
