use Rattle.std.proofs.Common.{◌≤◌, length, drop}
use Rattle.vc_object.specs.Bytes.{Without}
use Rattle.vc_index.proofs.trees.split_path.Given as goal

abbrev pub invariant-loop-end : goal.invariant-loop-end
invariant-loop-end l = record { inside : l.end ≤ length l.path; plain : Without 47 (drop l.end l.path) }

abbrev pub decreases-loop-end : goal.decreases-loop-end
decreases-loop-end l = l.end
