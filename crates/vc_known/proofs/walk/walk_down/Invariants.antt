use Rattle.std.proofs.Common.{◌≡◌, ◌++◌, ◌-◌, ◌^◌, ◌<◌, ℕ, List, Some, IsSome, get_or}
use Rattle.vc_files.specs.Failures.{Wears}
use Rattle.vc_known.specs.Known.{IsOfKind, layer_in}
use Rattle.vc_known.specs.Layers.{above}
use Rattle.vc_known.specs.Walked.{kind_met, links_down_to}
use Rattle.vc_object.specs.declared.id.ObjectId.{ObjectId as Id}
use Rattle.vc_object.specs.declared.kind.Kind.{Kind}
use Rattle.vc_object_map.proofs.WalkLemmas.{Walks}
use Rattle.vc_known.proofs.walk.walk_down.Given as goal

abbrev pub invariant-loop-next : goal.invariant-loop-next
invariant-loop-next g l = record {
  kept : g.K.Objects.state_of l.objects ≡ g.K.Objects.state_of l.fn.objects;
  wear : Wears g.K.Objects.failed g.K.Objects.can_fail g.K.Objects.left l.fn.objects l.objects ⊥;
  grown : (more : List Id) × (l.walked.met.keys ≡ l.fn.walked.met.keys ++ more);
  walks : g.K.Objects.is_honest → Walks (links_down_to (g.K.Objects.objects (g.K.Objects.state_of l.fn.objects)) l.known l.count) (l.fn.walked.met.keys ++ above (layer_in l.known) l.count l.roots) l.walked.met.keys l.next;
  kinds : g.K.Objects.is_honest → (id : Id) (kind : Kind) → kind_met l.walked id ≡ Some kind → IsOfKind (g.K.Objects.objects (g.K.Objects.state_of l.fn.objects)) id kind;
  read : g.K.Objects.is_honest → (k : ℕ) (d : Id) → k < l.next → IsSome (kind_met l.walked (get_or l.walked.met.keys k d));
}

abbrev pub decreases-loop-next : goal.decreases-loop-next
decreases-loop-next g l = 2 ^ 63 - l.next
