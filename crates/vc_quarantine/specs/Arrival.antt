-- What a slot's quarantine holds while the objects of a push come, one after another.
use Rattle.std.specs.Prelude.{◌≡◌, ℕ, true, List, [], ◌∷◌, ◌++◌, Option, Some, None, Ok, Err}
use Rattle.std.specs.List.{AllByRecursion}
use Rattle.vc_fetch.specs.Pack.{is_object}
use Rattle.vc_files.specs.FileMap.{FileMap}
use Rattle.vc_object.specs.Decoding.{StoredObject}
use Rattle.vc_object.specs.ObjectFault.{BodyFault}
use Rattle.vc_object.specs.declared.fault.ObjectFault.{ObjectFault}
use Rattle.vc_object.specs.declared.id.ObjectId.{ObjectId}
use Rattle.vc_pkt.specs.Carried.{object_named, with_objects}
use Rattle.vc_push.specs.Push.{Carried, carry}
use Rattle.vc_push_rules.specs.Carrying.{HoldsNames}
use Rattle.vc_push_rules.specs.Quarantine.{IsDropped, quarantined}
use Rattle.vc_quarantine.specs.declared.arrival.Arriving.{Arriving}

-- it holds the first that came of each name, under these names
pub record HoldsArrived (content : FileMap) (slot : ℕ) (names : List ObjectId) (objects : List StoredObject) : Type 0 where
  pub same : (id : ObjectId) → quarantined content slot id ≡ object_named id objects
  pub holds : HoldsNames content slot names

-- one more came, and is held after those that were
abbrev pub HoldsMore : StoredObject → (slot : ℕ) → (old : FileMap) → List ObjectId → (new : FileMap) → List ObjectId → Type 0
HoldsMore object slot old names new more = (before : List StoredObject) → HoldsArrived old slot names before → HoldsArrived new slot more (before ++ object ∷ [])

-- A push that comes: what it carries so far is held under its names; or a body was at fault, and then nothing is held.
pub data HasArrived (content : FileMap) (slot : ℕ) (names : List ObjectId) (fault : Option ObjectFault) (carried : Carried) : Type 0 where
  all_good : (objects : List StoredObject) → carried ≡ Ok (with_objects [] objects) → AllByRecursion (λ o. is_object o ≡ true) objects → fault ≡ None → HoldsArrived content slot names objects → HasArrived content slot names fault carried
  one_bad : (bad : StoredObject) (f : ObjectFault) → carried ≡ Err bad → fault ≡ Some f → BodyFault bad.kind bad.body f → names ≡ [] → IsDropped slot content → HasArrived content slot names fault carried

-- so much has come of this push
abbrev pub HasCome : FileMap → Arriving → Carried → Type 0
HasCome content arriving carried = HasArrived content arriving.slot arriving.names.keys arriving.fault carried

-- whatever had come of it, this object has come too
abbrev pub TakesObject : StoredObject → (old : FileMap) → Arriving → (new : FileMap) → Arriving → Type 0
TakesObject object old before new after = (carried : Carried) → HasCome old before carried → HasCome new after (carry object carried)
