-- What a refusal of a store says, and one of a walk over objects that are asked for one by one.
use Rattle.std.specs.Prelude.{◌≡◌, ℕ, ⊤, List}
use Rattle.vc_files.specs.FileMap.{FileMap}
use Rattle.vc_object.specs.Object.{object_name, IsObject}
use Rattle.vc_object.specs.ObjectFault.{BodyFault}
use Rattle.vc_object.specs.ObjectMap.{ObjectMap, links_in}
use Rattle.vc_object.specs.declared.id.ObjectId.{ObjectId}
use Rattle.vc_object.specs.declared.kind.Kind.{Kind}
use Rattle.vc_object_map.specs.Graph.{ReachedFrom}
use Rattle.vc_object_map.specs.Store.{IsDamaged}
use Rattle.vc_object_map.specs.declared.faults.StoreFault.{StoreFault}
use Rattle.vc_object_map.specs.declared.faults.StoreFault.TheVariants.{BadObject, Absent, Damaged, Fault}

-- want of memory, or a device that failed
abbrev pub IsFault : StoreFault → Type 0
IsFault (Fault fault) = ⊤
IsFault _ = ⊥

-- what a look at one name may answer
abbrev pub IsOfName : ObjectId → StoreFault → Type 0
IsOfName id (BadObject fault) = ⊥
IsOfName id (Absent absent) = absent ≡ id
IsOfName id (Damaged damaged) = damaged ≡ id
IsOfName id (Fault fault) = ⊤

-- what a put may answer: an object is never refused as a bad one, and a bad one never for another cause
abbrev pub IsOfPut : Kind → List ℕ → StoreFault → Type 0
IsOfPut kind body (BadObject fault) = BodyFault kind body fault
IsOfPut kind body (Absent absent) = ⊥
IsOfPut kind body (Damaged damaged) = IsObject kind body × (damaged ≡ object_name kind body)
IsOfPut kind body (Fault fault) = IsObject kind body

-- a damaged object is damaged
abbrev pub IsOfDamage : FileMap → StoreFault → Type 0
IsOfDamage content (Damaged damaged) = IsDamaged content damaged
IsOfDamage content _ = ⊤

-- what a look for one name may answer in place of an object or none: a fault, or that the file of that name is damaged
abbrev pub IsRefused : ObjectId → Type 0 → StoreFault → Type 0
IsRefused id Damage (BadObject fault) = ⊥
IsRefused id Damage (Absent absent) = ⊥
IsRefused id Damage (Damaged damaged) = (damaged ≡ id) × Damage
IsRefused id Damage (Fault fault) = ⊤

-- what a walk from the roots may answer in place of names: a fault, or that a name that it met is damaged
abbrev pub IsMet : (ObjectId → Type 0) → (ObjectId → Type 0) → StoreFault → Type 0
IsMet Meets IsDamaged (BadObject fault) = ⊥
IsMet Meets IsDamaged (Absent absent) = ⊥
IsMet Meets IsDamaged (Damaged damaged) = Meets damaged × IsDamaged damaged
IsMet Meets IsDamaged (Fault fault) = ⊤

-- the same of a walk over the links among objects, from these roots
abbrev pub IsMetFrom : ObjectMap → (ObjectId → Type 0) → List ObjectId → StoreFault → Type 0
IsMetFrom objects IsDamaged roots fault = IsMet (ReachedFrom (links_in objects) roots) IsDamaged fault
