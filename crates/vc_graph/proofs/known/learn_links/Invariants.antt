use Rattle.std.proofs.Common.{◌≡◌, ◌++◌, List, take}
use Rattle.vc_files.specs.Failures.{Wears}
use Rattle.vc_object_map.proofs.KnownLemmas.{Learns}
use Rattle.vc_object.specs.ObjectMap.{links_in}
use Rattle.vc_object.specs.declared.id.ObjectId.{ObjectId as Id}
use Rattle.vc_graph.proofs.known.learn_links.Given as goal

abbrev pub invariant-loop-name : goal.invariant-loop-name
invariant-loop-name g l = record {
  kept : g.O.Objects.state_of l.objects ≡ g.O.Objects.state_of l.initial.objects;
  wear : Wears g.O.Objects.failed g.O.Objects.can_fail g.O.Objects.left l.initial.objects l.objects ⊥;
  grown : (more : List Id) × (l.known.keys ≡ l.initial.known.keys ++ more);
  learns : g.O.Objects.is_honest → Learns (links_in (g.O.Objects.objects (g.O.Objects.state_of l.initial.objects))) l.initial.known.keys (take l.name-index l.names) l.known.keys;
}
