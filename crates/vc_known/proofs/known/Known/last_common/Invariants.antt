use Rattle.std.proofs.Common.{◌≤◌, ◌<◌, ℕ}
use Rattle.vc_known.specs.Common.{HasMoment}
use Rattle.vc_known.specs.Known.{count_in, moments_in}
use Rattle.vc_known.proofs.known.Known.last_common.Given as goal

abbrev pub invariant-loop-count : goal.invariant-loop-count
invariant-loop-count l = record {
  moment : l.count ≤ count_in l.self;
  last : (more : ℕ) → l.count < more → more ≤ count_in l.self → ¬ HasMoment (moments_in l.self) l.names.keys more;
}

abbrev pub decreases-loop-count : goal.decreases-loop-count
decreases-loop-count l = l.count
