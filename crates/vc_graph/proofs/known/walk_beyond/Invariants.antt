use Rattle.std.proofs.Common.{◌≡◌, ◌++◌, ◌-◌, ◌^◌, ◌≤◌, List, Contains, length}
use Rattle.vc_files.specs.Failures.{Wears}
use Rattle.vc_object_map.proofs.KnownLemmas.{Beyond}
use Rattle.vc_object.specs.ObjectMap.{links_in}
use Rattle.vc_object.specs.declared.id.ObjectId.{ObjectId as Id}
use Rattle.vc_graph.proofs.known.walk_beyond.Given as goal

abbrev pub invariant-loop-next : goal.invariant-loop-next
invariant-loop-next g l = record {
  kept : g.O.Objects.state_of l.objects ≡ g.O.Objects.state_of l.initial.objects;
  wear : Wears g.O.Objects.failed g.O.Objects.can_fail g.O.Objects.left l.initial.objects l.objects ⊥;
  grown : (more : List Id) × (l.known.keys ≡ l.fn.known.keys ++ more);
  rooted : Contains l.known.keys l.root;
  behind : length l.fn.known.keys ≤ l.next;
  walks : g.O.Objects.is_honest → Beyond (links_in (g.O.Objects.objects (g.O.Objects.state_of l.initial.objects))) l.fn.known.keys l.root l.known.keys l.next;
}

abbrev pub decreases-loop-next : goal.decreases-loop-next
decreases-loop-next g l = 2 ^ 63 - l.next
