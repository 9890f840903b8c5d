-- What the writing of trees does to damaged files of objects: none becomes damaged.
use Rattle.vc_files.specs.FileMap.{FileMap}
use Rattle.vc_object.specs.declared.id.ObjectId.{ObjectId}
use Rattle.vc_object_map.specs.Store.{IsDamaged}

-- what is damaged now was so before
pub record KeepsDamage (old new : FileMap) : Type 0 where
  pub before : (id : ObjectId) → IsDamaged new id → IsDamaged old id
