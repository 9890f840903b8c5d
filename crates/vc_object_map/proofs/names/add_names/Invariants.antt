use Rattle.std.proofs.Common.{◌≡◌, take}
use Rattle.indexmap.specs.IndexSet.{insert_all}
use Rattle.vc_object.specs.ObjectId.{id_eq}
use Rattle.vc_object_map.proofs.names.add_names.Given as goal

abbrev pub invariant-loop-name : goal.invariant-loop-name
invariant-loop-name l = l.set.keys ≡ insert_all id_eq l.initial.set.keys (take l.name-index l.names)
