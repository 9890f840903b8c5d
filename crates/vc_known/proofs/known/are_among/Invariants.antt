use Rattle.std.proofs.Common.{Contains, take}
use Rattle.vc_object.specs.declared.id.ObjectId.{ObjectId as Id}
use Rattle.vc_known.proofs.known.are_among.Given as goal

abbrev pub invariant-loop-root : goal.invariant-loop-root
invariant-loop-root l = (id : Id) → Contains (take l.root-index l.roots) id → Contains l.names.keys id
