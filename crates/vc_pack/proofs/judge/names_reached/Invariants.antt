use Rattle.std.proofs.Common.{◌≡◌, length, take}
use Rattle.vc_files.specs.Failures.{Wears}
use Rattle.vc_object_map.specs.Graph.{IsClosedUnder}
use Rattle.vc_object.specs.ObjectMap.{links_in}
use Rattle.vc_pack.proofs.judge.names_reached.Given as goal

abbrev pub invariant-loop-id : goal.invariant-loop-id
invariant-loop-id g l = record {
  kept : g.O.Objects.state_of l.objects ≡ g.O.Objects.state_of l.initial.objects;
  wear : Wears g.O.Objects.failed g.O.Objects.can_fail g.O.Objects.left l.initial.objects l.objects ⊥;
  closed : g.O.Objects.is_honest → IsClosedUnder (links_in (g.O.Objects.objects (g.O.Objects.state_of l.initial.objects))) l.fn.known.keys → IsClosedUnder (links_in (g.O.Objects.objects (g.O.Objects.state_of l.initial.objects))) (take l.id-index l.wants);
  met : g.O.Objects.is_honest → IsClosedUnder (links_in (g.O.Objects.objects (g.O.Objects.state_of l.initial.objects))) l.fn.known.keys → IsClosedUnder (links_in (g.O.Objects.objects (g.O.Objects.state_of l.initial.objects))) l.met.keys;
  front : take (length l.fn.known.keys) l.met.keys ≡ l.fn.known.keys;
}
