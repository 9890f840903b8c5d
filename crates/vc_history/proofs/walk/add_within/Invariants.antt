use Rattle.std.proofs.Common.{◌≡◌, take}
use Rattle.indexmap.specs.IndexSet.{insert_all}
use Rattle.vc_history.specs.Walk.{unnumbered}
use Rattle.vc_object.specs.ObjectId.{id_eq}
use Rattle.vc_history.proofs.walk.add_within.Given as goal

abbrev pub invariant-loop-name : goal.invariant-loop-name
invariant-loop-name g l = l.met.keys ≡ insert_all id_eq l.initial.met.keys (unnumbered (g.L.Limit.beyond l.limit) (take l.name-index l.names))
