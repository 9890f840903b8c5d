use Rattle.std.proofs.Common.{◌≡◌, true, false, Ok, Err, refl, rules}
use Rattle.vc_files.proofs.WearLemmas.{writes_both, writes_none}
use Rattle.vc_local.proofs.LookLemmas.{looks_none, looks_then}
use Rattle.vc_world.specs.Exchanging.{HoldsClone}
use Rattle.vc_world.specs.declared.fetching.Fetched.{Fetched}
use Rattle.vc_node.proofs.OwnLemmas.{own_same, own_then}
use Rattle.vc_world.proofs.AloneRounds.{begins_alone, breaks_alone, ends_alone, goes_alone}
use Rattle.vc_world.proofs.FetchRounds.{begins, breaks_off, catches_up, comes_to_end, goes_on}
use Rattle.vc_world.proofs.WearLemmas.{quiet, then_lost}
use Rattle.vc_world.proofs.fetching.exchange_fetch.Goals as goal

pub rounds-init : goal.rounds-init
rounds-init g c = record {
  so_far = λ p f. begins g.P.Peer.holds g.P.Peer.told (HoldsClone g.F.Files.content) c.args.shared.now c.args.clone.now;
  alone = λ f. begins_alone g.P.Peer.says g.P.Answer.Source.remaining g.F.Files.content c.args.shared.now c.args.clone.now;
  kept = λ f. own_same _ _ refl;
  wear = writes_none (λ never. never);
  peer_wear = looks_none (λ never. never);
}

pub returns-in-Err : goal.returns-in-Err
returns-in-Err g c =
    let ends = λ (p : g.P.Peer.honest) (f : g.F.Files.honest). breaks_off g.P.Peer.holds g.P.Peer.told (HoldsClone g.F.Files.content) c.rounds.before c.rounds.moved c.in-Err.end c.args.shared.now c.rounds.shared c.fetch_round.new.shared
    c.args.clone.now c.rounds.clone c.fetch_round.new.clone (c.rounds.invariant.so_far p f) (c.in-Err.ensures.round p f) in
    record {
      fetched = ends;
      caught_up = λ p f. catches_up g.P.Peer.holds g.P.Peer.told (HoldsClone g.F.Files.content) (Err c.in-Err.end) c.args.shared.now c.fetch_round.new.shared c.args.clone.now c.fetch_round.new.clone (ends p f);
      alone = λ f. breaks_alone g.P.Peer.says g.P.Answer.Source.remaining g.F.Files.content c.rounds.before c.rounds.moved c.in-Err.end c.args.shared.now c.rounds.shared c.fetch_round.new.shared c.args.clone.now c.rounds.clone c.fetch_round.new.clone
          (c.rounds.invariant.alone f) (c.in-Err.ensures.alone f);
      kept = λ f. own_then (c.rounds.invariant.kept f) (c.in-Err.ensures.kept f);
      wear = then_lost c.rounds.invariant.wear c.in-Err.ensures.wear;
      peer_wear = looks_then c.rounds.invariant.peer_wear c.in-Err.ensures.peer_wear;
    }

pub returns-then-is_last : goal.returns-then-is_last
returns-then-is_last g c =
    let yes : c.is_last.result ≡ true = search rules in
    let fetched : Fetched = record { moved = c.saturating_add-moved.result; left = c.in-Ok.round.left } in
    let ends = λ (p : g.P.Peer.honest) (f : g.F.Files.honest). comes_to_end g.P.Peer.holds g.P.Peer.told (HoldsClone g.F.Files.content) c.rounds.before c.in-Ok.round fetched c.rounds.moved c.args.shared.now c.rounds.shared c.fetch_round.new.shared
    c.args.clone.now c.rounds.clone c.fetch_round.new.clone (c.rounds.invariant.so_far p f) (c.in-Ok.ensures.round p f) refl c.saturating_add-moved.ensures (c.is_last.ensures.last yes) in
    record {
      fetched = ends;
      caught_up = λ p f. catches_up g.P.Peer.holds g.P.Peer.told (HoldsClone g.F.Files.content) (Ok fetched) c.args.shared.now c.fetch_round.new.shared c.args.clone.now c.fetch_round.new.clone (ends p f);
      alone = λ f. ends_alone g.P.Peer.says g.P.Answer.Source.remaining g.F.Files.content c.rounds.before c.in-Ok.round fetched c.rounds.moved c.args.shared.now c.rounds.shared c.fetch_round.new.shared c.args.clone.now c.rounds.clone c.fetch_round.new.clone
          (c.rounds.invariant.alone f) (c.in-Ok.ensures.alone f) refl c.saturating_add-moved.ensures (c.is_last.ensures.last yes);
      kept = λ f. own_then (c.rounds.invariant.kept f) (c.in-Ok.ensures.kept f);
      wear = then_lost c.rounds.invariant.wear c.in-Ok.ensures.wear;
      peer_wear = looks_then c.rounds.invariant.peer_wear c.in-Ok.ensures.peer_wear;
    }

pub rounds-preserved : goal.rounds-preserved
rounds-preserved g c =
    let no : c.is_last.result ≡ false = search rules in
    let more = c.is_last.ensures.more no in
    record {
      so_far = λ p f. goes_on g.P.Peer.holds g.P.Peer.told (HoldsClone g.F.Files.content) c.rounds.before c.in-Ok.round c.rounds.moved c.saturating_add-moved.result c.args.shared.now c.rounds.shared c.fetch_round.new.shared
          c.args.clone.now c.rounds.clone c.fetch_round.new.clone (c.rounds.invariant.so_far p f) (c.in-Ok.ensures.round p f) c.saturating_add-moved.ensures more.0 more.1;
      alone = λ f. goes_alone g.P.Peer.says g.P.Answer.Source.remaining g.F.Files.content c.rounds.before c.in-Ok.round c.rounds.moved c.saturating_add-moved.result c.args.shared.now c.rounds.shared c.fetch_round.new.shared c.args.clone.now c.rounds.clone c.fetch_round.new.clone
          (c.rounds.invariant.alone f) (c.in-Ok.ensures.alone f) c.saturating_add-moved.ensures more.0 more.1;
      kept = λ f. own_then (c.rounds.invariant.kept f) (c.in-Ok.ensures.kept f);
      wear = writes_both c.rounds.invariant.wear (λ never. never) (quiet c.in-Ok.ensures.wear (λ never. never));
      peer_wear = looks_then c.rounds.invariant.peer_wear c.in-Ok.ensures.peer_wear;
    }
