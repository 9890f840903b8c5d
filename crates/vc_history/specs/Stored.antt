-- Generations over the objects that files hold, and files that keep their objects.
use Rattle.std.specs.Prelude.{◌≡◌, Some}
use Rattle.vc_history.specs.Right.{AgreesWith}
use Rattle.vc_history.specs.declared.generations.Generations.{Generations}
use Rattle.vc_files.specs.FileMap.{FileMap}
use Rattle.vc_object.specs.Decoding.{StoredObject}
use Rattle.vc_object.specs.declared.id.ObjectId.{ObjectId}
use Rattle.vc_object_map.specs.Store.{objects}

-- the numbers agree with what is stored
abbrev pub AgreesIn : FileMap → Generations → Type 0
AgreesIn content generations = AgreesWith (objects content) generations

-- each object that was stored is stored
pub record KeepsObjects (old new : FileMap) : Type 0 where
  pub at : (id : ObjectId) (o : StoredObject) → objects old id ≡ Some o → objects new id ≡ Some o
