use Rattle.std.proofs.Common.{take, Contains}
use Rattle.vc_pack.specs.Picked.{IsPicked}
use Rattle.vc_pack.proofs.counting.counted.Given as goal

abbrev pub invariant-loop-have : goal.invariant-loop-have
invariant-loop-have l = IsPicked (Contains l.ids) (take l.have-index l.haves) l.counted.items
