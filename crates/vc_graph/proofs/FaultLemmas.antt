-- A refusal over some roots is one over roots that reach as much.
use Rattle.std.proofs.Common.{List}
use Rattle.vc_graph.specs.declared.fault.GraphFault.TheVariants.{Missing, Store}
use Rattle.vc_graph.specs.declared.fault.GraphFault.{GraphFault}
use Rattle.vc_graph.specs.GraphFault.{IsTold}
use Rattle.vc_object.specs.ObjectMap.{ObjectMap, links_in}
use Rattle.vc_object.specs.declared.id.ObjectId.{ObjectId}
use Rattle.vc_object_map.specs.Graph.{ReachedFrom}
use Rattle.vc_object_map.proofs.FaultLemmas.{IsMet-more}

pub IsTold-more : (objects : ObjectMap) (IsDamaged : ObjectId → Type 0) (some more : List ObjectId) → ((y : ObjectId) → ReachedFrom (links_in objects) some y → ReachedFrom (links_in objects) more y)
    → (fault : GraphFault) → IsTold objects IsDamaged some fault → IsTold objects IsDamaged more fault
IsTold-more objects IsDamaged some more reached (Missing id) h = (reached id h.0, h.1)
IsTold-more objects IsDamaged some more reached (Store fault) h = IsMet-more (ReachedFrom (links_in objects) some) (ReachedFrom (links_in objects) more) IsDamaged reached fault h
