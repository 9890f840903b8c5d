use Rattle.std.proofs.Common.{take}
use Rattle.vc_simulation.specs.Values.{HasZero}
use Rattle.vc_simulation.proofs.world_clone.has_zero.Given as goal

abbrev pub invariant-loop-item : goal.invariant-loop-item
invariant-loop-item l = ¬ HasZero (take l.item-index l.items)
