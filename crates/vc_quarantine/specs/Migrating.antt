-- What is stored as a push's objects are.
use Rattle.std.specs.Prelude.{◌≡◌, ◌++◌, ℕ, List, if◌then◌else◌}
use Rattle.std.specs.List.{list_any}
use Rattle.vc_files.specs.FileMap.{FileMap}
use Rattle.vc_object.specs.ObjectId.{id_eq}
use Rattle.vc_object.specs.ObjectMap.{ObjectMap}
use Rattle.vc_object.specs.declared.id.ObjectId.{ObjectId}
use Rattle.vc_object_map.specs.Store.{objects}
use Rattle.vc_push_rules.specs.Quarantine.{objects_seen}

-- the objects, with those of these names as the push sees them: what is stored stays, and what it carries is added
unfoldable pub migrated : FileMap → ℕ → List ObjectId → ObjectMap
migrated content slot names id = if list_any (id_eq id) names then objects_seen content slot id else objects content id

-- some first names are done
pub record IsFrontMigrated (old : FileMap) (slot : ℕ) (names : List ObjectId) (new : FileMap) : Type 0 where
  pub front : List ObjectId
  pub back : List ObjectId
  pub whole : names ≡ front ++ back
  pub stored : (id : ObjectId) → objects new id ≡ migrated old slot front id
