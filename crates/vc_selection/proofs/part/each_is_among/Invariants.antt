use Rattle.std.proofs.Common.{◌⊎◌, Contains, take}
use Rattle.vc_object.specs.declared.id.ObjectId.{ObjectId as Id}
use Rattle.vc_selection.proofs.part.each_is_among.Given as goal

abbrev pub invariant-loop-name : goal.invariant-loop-name
invariant-loop-name l = (x : Id) → Contains (take l.name-index l.names) x → Contains l.some.keys x ⊎ Contains l.others.keys x
