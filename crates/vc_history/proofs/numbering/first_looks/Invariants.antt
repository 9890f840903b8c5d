use Rattle.std.proofs.Common.{◌<◌, ◌≤◌, ℕ, Contains}
use Rattle.vc_history.specs.Numbering.{places}
use Rattle.vc_history.proofs.numbering.first_looks.Given as goal

abbrev pub invariant-loop-place : goal.invariant-loop-place
invariant-loop-place l = (k : ℕ) → l.place ≤ k → k < l.count → Contains (places l.looks) k

abbrev pub decreases-loop-place : goal.decreases-loop-place
decreases-loop-place l = l.place
