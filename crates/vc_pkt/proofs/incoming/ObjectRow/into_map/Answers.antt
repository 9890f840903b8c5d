use Rattle.std.proofs.Common.{sym, subst}
use Rattle.vc_pkt.specs.StreamObjectView.{AreNamed}
use Rattle.vc_pkt.proofs.Rows.{collected}
use Rattle.vc_pkt.proofs.incoming.ObjectRow.into_map.Goals as goal

pub invariant_of-result : goal.invariant_of-result
invariant_of-result c = record { named = subst AreNamed (sym (collected c.args.self.items.items c.in_ok-by_name.by_name c.args.self.sorted c.in_ok-by_name.ensures)) c.args.self.named }

pub returns : goal.returns
returns c = collected c.args.self.items.items c.in_ok-by_name.by_name c.args.self.sorted c.in_ok-by_name.ensures
