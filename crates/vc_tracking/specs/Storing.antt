-- What is stored of the objects that a pack brings.
use Rattle.std.specs.Prelude.{◌≡◌, ◌⊎◌, ℕ, List, false, nat_eq, codes}
use Rattle.std.specs.FinMap.{get}
use Rattle.std.specs.List.{starts_with}
use Rattle.vc_files.specs.FileMap.{FileMap}
use Rattle.vc_object_map.specs.Overlay.{with_carried}
use Rattle.vc_object.specs.Decoding.{StoredObject}
use Rattle.vc_object.specs.declared.id.ObjectId.{ObjectId}
use Rattle.vc_history.specs.Stored.{KeepsObjects}
use Rattle.vc_push_rules.specs.Carrying.{objects_in}
use Rattle.vc_quarantine.specs.Clean.{MakesNoneBad}
use Rattle.vc_object_map.specs.Store.{objects}

-- what is stored stays, and what is brought is added
pub record AreStored (old new : FileMap) (brought : List StoredObject) : Type 0 where
  pub each : (id : ObjectId) → objects new id ≡ with_carried (objects old) (objects_in brought) id

-- some of it is added
pub record AreSomeStored (old new : FileMap) (brought : List StoredObject) : Type 0 where
  pub each : (id : ObjectId) → (objects new id ≡ objects old id) ⊎ (objects new id ≡ with_carried (objects old) (objects_in brought) id)

-- beside objects and refs nothing changes
pub record KeepsBeside (old new : FileMap) : Type 0 where
  pub at : (path : List ℕ) → starts_with nat_eq path (codes "objects/") ≡ false → starts_with nat_eq path (codes "refs/") ≡ false → get new path ≡ get old path

-- No object is lost, and no file is made bad.
pub record KeepsGood (old new : FileMap) : Type 0 where
  pub objects : KeepsObjects old new
  pub bad : MakesNoneBad old new
