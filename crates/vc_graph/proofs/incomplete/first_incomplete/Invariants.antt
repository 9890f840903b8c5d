use Rattle.std.proofs.Common.{◌≡◌}
use Rattle.vc_files.specs.Failures.{Wears}
use Rattle.vc_graph.proofs.IncompleteLemmas.{Covers}
use Rattle.vc_object.specs.ObjectMap.{links_in}
use Rattle.vc_graph.proofs.incomplete.first_incomplete.Given as goal

abbrev pub invariant-loop-root : goal.invariant-loop-root
invariant-loop-root g l = record {
  kept : g.O.Objects.state_of l.objects ≡ g.O.Objects.state_of l.initial.objects;
  wear : Wears g.O.Objects.failed g.O.Objects.can_fail g.O.Objects.left l.initial.objects l.objects ⊥;
  covers : g.O.Objects.is_honest → Covers (links_in (g.O.Objects.objects (g.O.Objects.state_of l.initial.objects))) l.roots l.met.keys l.root-index;
}
