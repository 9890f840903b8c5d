use Rattle.std.proofs.Common.{sym, ◌∙◌, ap}
use Rattle.vc_files.proofs.WearLemmas.{writes_from, writes_none}
use Rattle.vc_local.proofs.LookLemmas.{looks_none, looks_then, looks_told}
use Rattle.vc_node.proofs.OwnLemmas.{own_same, own_then}
use Rattle.vc_world.proofs.AloneRounds.{none_listed, not_started, round_ended, round_wanted}
use Rattle.vc_world.proofs.RoundCalls.{ended, unanswered, unstarted, wanted}
use Rattle.vc_world.proofs.WearLemmas.{asks_on, begins_calm, ends_so, lost_from, lost_told, none_lost, one_lost, quiet, then_lost}
use Rattle.vc_world.proofs.fetching.fetch_round.Goals as goal

pub returns-in-Err : goal.returns-in-Err
returns-in-Err g c = record {
  round = λ p f. unstarted g.P.Peer.holds g.P.Peer.told g.P.Answer.Source.remaining g.F.Files.content c.args.shared.now c.in-Err.fault c.args.clone.now c.start_fetch.new.self (c.in-Err.ensures.answers f);
  alone = λ f. not_started g.P.Peer.says g.P.Answer.Source.remaining g.F.Files.content c.in-Err.fault c.args.shared.now c.args.clone.now c.start_fetch.new.self (c.in-Err.ensures.answers f);
  kept = λ f. own_same _ _ (ap g.F.Files.content c.in-Err.ensures.same);
  wear = none_lost (writes_from c.in-Err.ensures.same (writes_none (begins_calm c.in-Err.fault c.in-Err.ensures.refused)));
  peer_wear = looks_none (λ never. never);
}

pub returns-in-Err-ask : goal.returns-in-Err-ask
returns-in-Err-ask g c = record {
  round = λ p f. unanswered g.P.Peer.holds g.P.Peer.told g.P.Answer.Source.remaining g.F.Files.content c.in-Ok.list c.deref.result.now c.in-Err-ask.refusal c.args.shared.now c.ask.new.self c.args.clone.now c.start_fetch.new.self
      (c.in-Ok.ensures.answers f) c.deref.ensures.value (c.in-Err-ask.ensures.answers p);
  alone = λ f. none_listed g.P.Peer.says g.P.Answer.Source.remaining g.F.Files.content c.in-Ok.list c.deref.result.now c.in-Err-ask.refusal c.args.shared.now c.ask.new.self c.args.clone.now c.start_fetch.new.self (c.in-Ok.ensures.answers f) c.deref.ensures.value c.in-Err-ask.ensures.said;
  kept = λ f. own_same _ _ (ap g.F.Files.content c.in-Ok.ensures.same);
  wear = none_lost (writes_from c.in-Ok.ensures.same (writes_none (λ never. never)));
  peer_wear = c.in-Err-ask.ensures.wear;
}

pub returns-in-Ask : goal.returns-in-Ask
returns-in-Ask g c = record {
  round = λ p f. wanted g.P.Peer.holds g.P.Peer.told g.P.Answer.Source.remaining g.F.Files.content c.in-Ok.list c.in-Ok-ask.advert c.in-Ask.want c.deref.result.now c.deref-in-Ask.result.now c.receive-received.result c.fetch_pack.result
      c.args.shared.now c.ask.new.self c.fetch_pack.new.shared c.args.clone.now c.start_fetch.new.self c.receive-received.new.clone c.fetch_pack.new.clone
      (c.in-Ok.ensures.answers f) c.deref.ensures.value (c.in-Ok-ask.ensures.answers p) (c.receive-received.ensures.answers f) (sym c.go_on.ensures ∙ c.in-Ask.is)
      c.deref-in-Ask.ensures.value (c.fetch_pack.ensures.rest p f);
  alone = λ f. round_wanted g.P.Peer.says g.P.Answer.Source.remaining g.F.Files.content c.in-Ok.list c.deref.result.now c.in-Ok-ask.advert c.in-Ask.want c.deref-in-Ask.result.now c.receive-received.result c.fetch_pack.result c.args.shared.now c.ask.new.self c.fetch_pack.new.shared
      c.args.clone.now c.start_fetch.new.self c.receive-received.new.clone c.fetch_pack.new.clone (c.in-Ok.ensures.answers f) c.deref.ensures.value c.in-Ok-ask.ensures.said (c.receive-received.ensures.alone f c.in-Ok-ask.ensures.read)
      (sym c.go_on.ensures ∙ c.in-Ask.is) c.deref-in-Ask.ensures.value (c.fetch_pack.ensures.alone f);
  kept = λ f. own_then (own_same _ _ (ap g.F.Files.content c.in-Ok.ensures.same)) (own_then (c.receive-received.ensures.kept f) (c.fetch_pack.ensures.kept f));
  wear = lost_from c.in-Ok.ensures.same (then_lost (quiet c.receive-received.ensures.wear (asks_on c.receive-received.result c.in-Ask.want (sym c.go_on.ensures ∙ c.in-Ask.is))) c.fetch_pack.ensures.wear);
  peer_wear = looks_then c.in-Ok-ask.ensures.wear c.fetch_pack.ensures.peer_wear;
}

pub returns : goal.returns
returns g c =
    let so = ends_so g.P.Peer.is_device c.receive-received.result c.in-End.end (sym c.go_on.ensures ∙ c.in-End.is) in
    record {
      round = λ p f. ended g.P.Peer.holds g.P.Peer.told g.P.Answer.Source.remaining g.F.Files.content c.in-Ok.list c.in-Ok-ask.advert c.deref.result.now c.receive-received.result c.in-End.end
          c.args.shared.now c.ask.new.self c.args.clone.now c.start_fetch.new.self c.receive-received.new.clone
          (c.in-Ok.ensures.answers f) c.deref.ensures.value (c.in-Ok-ask.ensures.answers p) (c.receive-received.ensures.answers f) (sym c.go_on.ensures ∙ c.in-End.is);
      alone = λ f. round_ended g.P.Peer.says g.P.Answer.Source.remaining g.F.Files.content c.in-Ok.list c.deref.result.now c.in-Ok-ask.advert c.receive-received.result c.in-End.end c.args.shared.now c.ask.new.self c.args.clone.now c.start_fetch.new.self c.receive-received.new.clone
          (c.in-Ok.ensures.answers f) c.deref.ensures.value c.in-Ok-ask.ensures.said (c.receive-received.ensures.alone f c.in-Ok-ask.ensures.read) (sym c.go_on.ensures ∙ c.in-End.is);
      kept = λ f. own_then {new = g.F.Files.content c.receive-received.new.clone.files} (own_same _ _ (ap g.F.Files.content c.in-Ok.ensures.same)) (c.receive-received.ensures.kept f);
      wear = lost_from {new = c.receive-received.new.clone.files} c.in-Ok.ensures.same (lost_told {new = c.receive-received.new.clone.files} c.receive-received.ensures.wear (one_lost c.in-Ok-ask.advert c.in-Ok-ask.ensures.whole) so.to so.from);
      peer_wear = looks_told c.in-Ok-ask.ensures.wear so.own;
    }
