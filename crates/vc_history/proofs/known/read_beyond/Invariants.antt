use Rattle.std.proofs.Common.{◌≡◌, ◌++◌, ◌-◌, ◌^◌, ◌≤◌, List, Contains, length}
use Rattle.vc_files.specs.Failures.{Wears}
use Rattle.vc_object_map.proofs.KnownLemmas.{Beyond}
use Rattle.vc_object.specs.ObjectMap.{parents_in}
use Rattle.vc_object.specs.declared.id.ObjectId.{ObjectId as Id}
use Rattle.vc_history.proofs.known.read_beyond.Given as goal

abbrev pub invariant-loop-next : goal.invariant-loop-next
invariant-loop-next g l = record {
  kept : g.C.Objects.state_of l.commits ≡ g.C.Objects.state_of l.initial.commits;
  wear : Wears g.C.Objects.failed g.C.Objects.can_fail g.C.Objects.left l.initial.commits l.commits ⊥;
  grown : (more : List Id) × (l.known.keys ≡ l.fn.known.keys ++ more);
  rooted : Contains l.known.keys l.root;
  behind : length l.fn.known.keys ≤ l.next;
  walks : g.C.Objects.is_honest → Beyond (parents_in (g.C.Objects.objects (g.C.Objects.state_of l.initial.commits))) l.fn.known.keys l.root l.known.keys l.next;
}

abbrev pub decreases-loop-next : goal.decreases-loop-next
decreases-loop-next g l = 2 ^ 63 - l.next
