use Rattle.std.proofs.Common.{sym, subst, refl}
use Rattle.std.specs.Map.{keys_of}
use Rattle.vc_object.specs.ObjectId.{IsSortedByName}
use Rattle.vc_pkt.specs.StreamObjectView.{AreNamed}
use Rattle.vc_pkt.proofs.CarriedOnce.{none_sorted}
use Rattle.vc_pkt.proofs.incoming.ObjectRow.new.Goals as goal

pub invariant_of-result : goal.invariant_of-result
invariant_of-result c = record {
  named = subst AreNamed (sym c.new.ensures.items) refl;
  sorted = subst (λ es. IsSortedByName (keys_of es)) (sym c.new.ensures.items) none_sorted;
}
