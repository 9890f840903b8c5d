use Rattle.std.proofs.Common.{◌≡◌, ◌-◌, ◌^◌}
use Rattle.vc_files.specs.Failures.{Wears}
use Rattle.vc_graph.proofs.WalkOnLemmas.{Passes}
use Rattle.vc_object.specs.ObjectMap.{links_in}
use Rattle.vc_graph.proofs.presence.present.Given as goal

abbrev pub invariant-loop-absent : goal.invariant-loop-absent
invariant-loop-absent g l = record {
  kept : g.O.Objects.state_of l.objects ≡ g.O.Objects.state_of l.initial.objects;
  wear : Wears g.O.Objects.failed g.O.Objects.can_fail g.O.Objects.left l.initial.objects l.objects ⊥;
  passes : g.O.Objects.is_honest → Passes (links_in (g.O.Objects.objects (g.O.Objects.state_of l.initial.objects))) l.roots l.met.keys l.absent.keys l.next;
}

abbrev pub decreases-loop-absent : goal.decreases-loop-absent
decreases-loop-absent g l = 2 ^ 63 - l.next
