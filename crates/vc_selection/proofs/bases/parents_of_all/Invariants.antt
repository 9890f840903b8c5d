use Rattle.std.proofs.Common.{◌↔◌, take, Contains}
use Rattle.vc_selection.specs.Passed.{IsPassed}
use Rattle.vc_history.specs.Walk.{graph_of}
use Rattle.vc_object.specs.declared.id.ObjectId.{ObjectId as Id}
use Rattle.vc_selection.proofs.bases.parents_of_all.Given as goal

abbrev pub invariant-loop-id : goal.invariant-loop-id
invariant-loop-id l = (p : Id) → Contains l.passed.keys p ↔ IsPassed (graph_of l.walk) (take l.id-index l.ids) p
