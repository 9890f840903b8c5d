use Rattle.std.proofs.Common.{◌≡◌, take}
use Rattle.indexmap.specs.IndexSet.{insert_all}
use Rattle.vc_known.specs.Known.{layer_in}
use Rattle.vc_known.specs.Layers.{above}
use Rattle.vc_object.specs.ObjectId.{id_eq}
use Rattle.vc_known.proofs.walk.add_above.Given as goal

abbrev pub invariant-loop-name : goal.invariant-loop-name
invariant-loop-name l = l.met.keys ≡ insert_all id_eq l.initial.met.keys (above (layer_in l.known) l.count (take l.name-index l.names))
