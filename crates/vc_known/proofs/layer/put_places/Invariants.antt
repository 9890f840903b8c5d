use Rattle.std.proofs.Common.{◌≡◌, ◌++◌, List, take}
use Rattle.indexmap.specs.IndexMap.{get}
use Rattle.vc_object.specs.ObjectId.{id_eq}
use Rattle.vc_object.specs.declared.id.ObjectId.{ObjectId as Id}
use Rattle.vc_known.specs.Walked.{Places, kind_met}
use Rattle.vc_known.specs.declared.known.Place.{Place}
use Rattle.vc_known.proofs.layer.put_places.Given as goal

abbrev pub invariant-loop-id : goal.invariant-loop-id
invariant-loop-id l = record {
  places : Places l.layer (take l.id-index l.names) (kind_met l.walked) (get id_eq l.fn.places) (get id_eq l.places);
  front : (more : List (Id × Place)) × (l.places.entries ≡ l.fn.places.entries ++ more);
}
