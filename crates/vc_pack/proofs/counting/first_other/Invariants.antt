use Rattle.std.proofs.Common.{take, Contains}
use Rattle.vc_object.specs.declared.id.ObjectId.{ObjectId as Id}
use Rattle.vc_pack.proofs.counting.first_other.Given as goal

abbrev pub invariant-loop-want : goal.invariant-loop-want
invariant-loop-want l = (id : Id) → Contains (take l.want-index l.wants) id → Contains l.ids id
