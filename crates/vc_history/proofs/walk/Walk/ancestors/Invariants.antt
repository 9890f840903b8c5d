use Rattle.std.proofs.Common.{◌-◌, ◌^◌}
use Rattle.vc_history.specs.Walk.{graph_of}
use Rattle.vc_object_map.proofs.WalkLemmas.{Walks}
use Rattle.vc_history.proofs.walk.Walk.ancestors.Given as goal

abbrev pub invariant-loop-next : goal.invariant-loop-next
invariant-loop-next l = Walks (graph_of l.self) l.roots l.found.keys l.next

abbrev pub decreases-loop-next : goal.decreases-loop-next
decreases-loop-next l = 2 ^ 63 - l.next
