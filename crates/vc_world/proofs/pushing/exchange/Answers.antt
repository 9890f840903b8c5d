use Rattle.std.proofs.Common.{Err}
use Rattle.vc_sending.specs.Sending.{machine_items}
use Rattle.vc_files.proofs.WearLemmas.{wears_writes}
use Rattle.vc_model.specs.Clone.{IsItemId}
use Rattle.vc_model.specs.Object.{zero_id}
use Rattle.vc_local.proofs.LookLemmas.{looks_none, looks_told}
use Rattle.vc_world.specs.declared.ending.ExchangeEnd.TheVariants.{Clone, Shared}
use Rattle.vc_node.proofs.OwnLemmas.{own_same, own_then}
use Rattle.vc_world.proofs.AlonePushes.{push_answered, push_unanswered, push_unsent}
use Rattle.vc_world.proofs.PushCalls.{comes, not_answered, not_sent, pushes_one}
use Rattle.vc_world.proofs.WearLemmas.{lost_told, none_lost, one_lost, own_peer, then_lost}
use Rattle.vc_world.proofs.pushing.exchange.Goals as goal

pub returns-in-Err : goal.returns-in-Err
returns-in-Err g c =
    let leads = λ (p : g.P.Peer.honest) (f : g.F.Files.honest) (z : ¬ IsItemId (machine_items c.args.items.now) zero_id). not_sent g.P.Peer.holds g.P.Peer.told g.P.Answer.Source.remaining g.F.Files.content c.args.atomic c.args.items.now c.args.shared.now c.in-Err.fault c.args.clone.now c.start.new.clone (c.in-Err.ensures.answers f z) in
    record {
      pushed = leads;
      done = λ p f z. pushes_one g.P.Peer.holds g.P.Peer.told g.P.Answer.Source.remaining g.F.Files.content c.args.atomic c.args.items.now (Err (Clone c.in-Err.fault)) c.args.shared.now c.args.shared.now c.args.clone.now c.start.new.clone (leads p f z);
      alone = λ f z. push_unsent g.P.Peer.says g.P.Answer.Source.remaining g.F.Files.content c.args.atomic c.args.items.now c.in-Err.fault c.args.shared.now c.args.clone.now c.start.new.clone (c.in-Err.ensures.answers f z);
      kept = λ f. own_same _ _ c.in-Err.ensures.same;
      wear = none_lost (wears_writes c.in-Err.ensures.wear (λ h. c.in-Err.ensures.same));
      peer_wear = looks_none (λ never. never);
    }

pub returns-in-Err-ask : goal.returns-in-Err-ask
returns-in-Err-ask g c =
    let leads = λ (p : g.P.Peer.honest) (f : g.F.Files.honest) (z : ¬ IsItemId (machine_items c.args.items.now) zero_id). not_answered g.P.Peer.holds g.P.Peer.told g.P.Answer.Source.remaining g.F.Files.content c.args.atomic c.args.items.now c.in-Ok.push c.deref.result.now c.in-Err-ask.refusal c.args.shared.now c.ask.new.self c.args.clone.now c.start.new.clone (c.in-Ok.ensures.answers f z) c.deref.ensures.value (c.in-Err-ask.ensures.answers p) in
    record {
      pushed = leads;
      done = λ p f z. pushes_one g.P.Peer.holds g.P.Peer.told g.P.Answer.Source.remaining g.F.Files.content c.args.atomic c.args.items.now (Err (Shared c.in-Err-ask.refusal)) c.args.shared.now c.ask.new.self c.args.clone.now c.start.new.clone (leads p f z);
      alone = λ f z. push_unanswered g.P.Peer.says g.P.Answer.Source.remaining g.F.Files.content c.args.atomic c.args.items.now c.in-Ok.push c.deref.result.now c.in-Err-ask.refusal c.args.shared.now c.ask.new.self c.args.clone.now c.start.new.clone (c.in-Ok.ensures.answers f z) c.deref.ensures.value c.in-Err-ask.ensures.said;
      kept = λ f. own_same _ _ c.in-Ok.ensures.same;
      wear = none_lost (wears_writes c.in-Ok.ensures.wear (λ h. c.in-Ok.ensures.same));
      peer_wear = c.in-Err-ask.ensures.wear;
    }

pub returns-clause-pushed : goal.returns-clause-pushed
returns-clause-pushed g c p f z =
    comes g.P.Peer.holds g.P.Peer.told g.P.Answer.Source.remaining g.F.Files.content c.args.atomic c.args.items.now c.in-Ok.push c.deref.result.now c.in-Ok-ask.reply c.take_reply.result c.args.shared.now c.ask.new.self c.args.clone.now c.start.new.clone c.take_reply.new.clone
    (c.in-Ok.ensures.answers f z) c.deref.ensures.value (c.in-Ok-ask.ensures.answers p) (c.take_reply.ensures.takes f)

pub returns-clause-done : goal.returns-clause-done
returns-clause-done g c p f z = pushes_one g.P.Peer.holds g.P.Peer.told g.P.Answer.Source.remaining g.F.Files.content c.args.atomic c.args.items.now c.take_reply.result c.args.shared.now c.ask.new.self c.args.clone.now c.take_reply.new.clone (returns-clause-pushed g c p f z)

pub returns-clause-alone : goal.returns-clause-alone
returns-clause-alone g c f z =
    push_answered g.P.Peer.says g.P.Answer.Source.remaining g.F.Files.content c.args.atomic c.args.items.now c.in-Ok.push c.deref.result.now c.in-Ok-ask.reply c.take_reply.result c.args.shared.now c.ask.new.self c.args.clone.now c.start.new.clone c.take_reply.new.clone
    (c.in-Ok.ensures.answers f z) c.deref.ensures.value c.in-Ok-ask.ensures.said (c.take_reply.ensures.alone f c.in-Ok-ask.ensures.read)

pub returns-clause-kept : goal.returns-clause-kept
returns-clause-kept g c f = own_then (own_same _ _ c.in-Ok.ensures.same) (c.take_reply.ensures.kept f)

pub returns-clause-wear : goal.returns-clause-wear
returns-clause-wear g c = then_lost (wears_writes c.in-Ok.ensures.wear (λ h. c.in-Ok.ensures.same)) (lost_told c.take_reply.ensures.wear (one_lost c.in-Ok-ask.reply c.in-Ok-ask.ensures.whole) (λ told. told) (λ told. told))

pub returns-clause-peer_wear : goal.returns-clause-peer_wear
returns-clause-peer_wear g c = looks_told c.in-Ok-ask.ensures.wear (own_peer g.P.Peer.is_device c.take_reply.result c.take_reply.ensures.own)
