use Rattle.std.proofs.Common.{◌≡◌, ◌-◌, ◌^◌, length}
use Rattle.vc_files.specs.Failures.{Wears}
use Rattle.vc_history.specs.Walk.{read_by}
use Rattle.vc_history.proofs.WalkLemmas.{Meets}
use Rattle.vc_history.proofs.walk.read_history.Given as goal

abbrev pub invariant-reading : goal.invariant-reading
invariant-reading g l = record {
  kept : g.C.Objects.state_of l.commits ≡ g.C.Objects.state_of l.initial.commits;
  wear : Wears g.C.Objects.failed g.C.Objects.can_fail g.C.Objects.left l.initial.commits l.commits ⊥;
  meets : g.C.Objects.is_honest → Meets (g.C.Objects.objects (g.C.Objects.state_of l.initial.commits)) (g.L.Limit.beyond l.limit) l.roots l.walk.met.keys (read_by l.walk) l.walk.other;
}

abbrev pub decreases-reading : goal.decreases-reading
decreases-reading g l = 2 ^ 63 - length l.walk.parents.items
