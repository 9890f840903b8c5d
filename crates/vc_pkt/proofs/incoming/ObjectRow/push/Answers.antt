use Rattle.std.proofs.Common.{sym, subst}
use Rattle.std.specs.Map.{keys_of}
use Rattle.vc_object.specs.ObjectId.{IsSortedByName}
use Rattle.vc_pkt.specs.StreamObjectView.{AreNamed}
use Rattle.vc_pkt.proofs.Rows.{named_more, sorted_more}
use Rattle.vc_pkt.proofs.incoming.ObjectRow.push.Goals as goal

pub invariant_of-result : goal.invariant_of-result
invariant_of-result c = record {
  named = subst AreNamed (sym c.in_ok-push.ensures.items) (named_more c.args.id c.args.object c.args.self.items.items c.args.self.named c.requires.named);
  sorted = subst (λ es. IsSortedByName (keys_of es)) (sym c.in_ok-push.ensures.items) (sorted_more c.args.id c.args.object c.args.self.items.items c.args.self.sorted c.requires.above);
}
