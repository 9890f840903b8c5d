-- What is there once a pack has come.
use Rattle.std.specs.Prelude.{List}
use Rattle.vc_fetch.specs.PackObjects.{objects_in}
use Rattle.vc_files.specs.FileMap.{FileMap}
use Rattle.vc_object_map.specs.Complete.{AreComplete}
use Rattle.vc_object_map.specs.Overlay.{with_carried}
use Rattle.vc_object.specs.ObjectMap.{ObjectMap}
use Rattle.vc_object.specs.declared.id.ObjectId.{ObjectId}
use Rattle.vc_pkt.specs.ObjectStreamView.{carried}
use Rattle.vc_pkt.specs.declared.carried.CarriedObjects.{CarriedObjects}
use Rattle.vc_object_map.specs.Store.{objects}

-- the stored objects and, for names that are absent there, those that the pack brings
abbrev pub with_pack : ObjectMap → CarriedObjects → ObjectMap
with_pack stored pack = with_carried stored (objects_in (carried pack))

-- all is there that the names reach once the pack has come to these files
abbrev pub AreCompleteWith : FileMap → CarriedObjects → List ObjectId → Type 0
AreCompleteWith content pack ids = AreComplete (with_pack (objects content) pack) ids
