use Rattle.std.proofs.Common.{◌≡◌, ◌≤◌, length, drop}
use Rattle.std.specs.List.{AllByRecursion}
use Rattle.vc_index.proofs.trees.start_of.Given as goal

abbrev pub invariant-loop-start : goal.invariant-loop-start
invariant-loop-start l = record { bound : l.start ≤ length l.parts; inside : AllByRecursion (λ part. length part.folder.now ≡ length l.folder) (drop l.start l.parts) }

abbrev pub decreases-loop-start : goal.decreases-loop-start
decreases-loop-start l = l.start
