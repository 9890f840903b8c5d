use Rattle.std.proofs.Common.{refl}
use Rattle.vc_files.proofs.WearLemmas.{writes_none}
use Rattle.vc_local.proofs.LookLemmas.{looks_told}
use Rattle.vc_node.proofs.OwnLemmas.{own_same}
use Rattle.vc_world.proofs.AloneRounds.{none_packed, pack_taken}
use Rattle.vc_world.proofs.RoundCalls.{no_pack, pack_comes}
use Rattle.vc_world.proofs.WearLemmas.{lost_told, none_lost, one_lost, settled_from, settled_own, settled_to}
use Rattle.vc_world.proofs.fetching.fetch_pack.Goals as goal

pub returns-in-Err : goal.returns-in-Err
returns-in-Err g c = record {
  rest = λ p f m reads. no_pack g.P.Peer.holds g.P.Peer.told g.P.Answer.Source.remaining g.F.Files.content m c.in-Err.refusal c.args.shared.now c.ask.new.self c.args.clone.now (c.in-Err.ensures.answers p m reads);
  alone = λ f l sent. none_packed g.P.Peer.says g.P.Answer.Source.remaining g.F.Files.content _ c.in-Err.refusal c.args.shared.now c.ask.new.self c.args.clone.now l c.in-Err.ensures.said sent;
  kept = λ f. own_same _ _ refl;
  wear = none_lost (writes_none (λ never. never));
  peer_wear = c.in-Err.ensures.wear;
}

pub returns : goal.returns
returns g c = record {
  rest = λ p f m reads. pack_comes g.P.Peer.holds g.P.Peer.told g.P.Answer.Source.remaining g.F.Files.content m c.in-Ok.pack c.receive-received.result c.settle.result c.args.shared.now c.ask.new.self c.args.clone.now
      c.receive-received.new.clone (c.in-Ok.ensures.answers p m reads) (c.receive-received.ensures.answers f) c.settle.ensures;
  alone = λ f l sent. pack_taken g.P.Peer.says g.P.Answer.Source.remaining g.F.Files.content _ c.in-Ok.pack c.receive-received.result c.settle.result c.args.shared.now c.ask.new.self c.args.clone.now c.receive-received.new.clone l c.in-Ok.ensures.said sent
      (c.receive-received.ensures.alone f c.in-Ok.ensures.read) c.settle.ensures;
  kept = λ f. c.receive-received.ensures.kept f;
  wear = rw c.settle.ensures (lost_told c.receive-received.ensures.wear (one_lost c.in-Ok.pack c.in-Ok.ensures.whole) (settled_to _ c.receive-received.result) (settled_from _ c.receive-received.result));
  peer_wear = rw c.settle.ensures (looks_told c.in-Ok.ensures.wear (settled_own g.P.Peer.is_device c.receive-received.result));
}
