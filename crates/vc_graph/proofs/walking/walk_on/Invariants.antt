use Rattle.std.proofs.Common.{◌≡◌, ◌++◌, ◌-◌, ◌^◌, ◌≤◌, List}
use Rattle.vc_files.specs.Failures.{Wears}
use Rattle.vc_graph.specs.Walking.{GoesOn}
use Rattle.vc_object.specs.ObjectMap.{links_in}
use Rattle.vc_object.specs.declared.id.ObjectId.{ObjectId as Id}
use Rattle.vc_graph.proofs.walking.walk_on.Given as goal

abbrev pub invariant-loop-next : goal.invariant-loop-next
invariant-loop-next g l = record {
  kept : g.O.Objects.state_of l.objects ≡ g.O.Objects.state_of l.initial.objects;
  wear : Wears g.O.Objects.failed g.O.Objects.can_fail g.O.Objects.left l.initial.objects l.objects ⊥;
  grown : (more : List Id) × (l.met.keys ≡ l.initial.met.keys ++ more);
  onward : l.place ≤ l.next;
  goes : g.O.Objects.is_honest → GoesOn (links_in (g.O.Objects.objects (g.O.Objects.state_of l.initial.objects))) l.initial.met.keys l.place l.met.keys l.next;
}

abbrev pub decreases-loop-next : goal.decreases-loop-next
decreases-loop-next g l = 2 ^ 63 - l.next
