use Rattle.std.proofs.Common.{◌≡◌, ◌-◌}
use Rattle.vc_files.specs.Failures.{Wears}
use Rattle.vc_known.specs.Known.{count_in}
use Rattle.vc_known.proofs.known.Known.last_reached_before.Given as goal

abbrev pub invariant-loop-back : goal.invariant-loop-back
invariant-loop-back g l = record {
  kept : g.C.Objects.state_of l.commits ≡ g.C.Objects.state_of l.fn.commits;
  wear : Wears g.C.Objects.failed g.C.Objects.can_fail g.C.Objects.left l.fn.commits l.commits ⊥;
}

abbrev pub decreases-loop-back : goal.decreases-loop-back
decreases-loop-back g l = count_in l.self - l.back
