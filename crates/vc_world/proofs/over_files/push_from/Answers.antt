use Rattle.vc_local.proofs.LookLemmas.{looks_none}
use Rattle.vc_world.proofs.OverFilesLemmas.{led_files, stay_unopened, stored_then, stored_unopened}
use Rattle.vc_world.proofs.WearLemmas.{none_lost, then_lost}
use Rattle.vc_world.proofs.over_files.push_from.Goals as goal

pub returns-in-Err : goal.returns-in-Err
returns-in-Err g c = record {
  alone = λ f z r can sound. stay_unopened _ _ r c.in-Err.fault c.args.shared.now _ (c.in-Err.ensures.err f) (c.in-Err.ensures.only f r can) can;
  kept = λ f. stored_unopened _ _ (c.in-Err.ensures.err f);
  wear = none_lost c.in-Err.ensures.wear_err;
  peer_wear = looks_none (λ never. never);
}

pub returns : goal.returns
returns g c = record {
  alone = λ f z r can sound. led_files g.F.Files.content r _ c.exchange-pushed.new.clone _ _ _ c.close.ensures c.in-Ok.ensures.fresh (c.in-Ok.ensures.opens f r can) sound (c.exchange-pushed.ensures.alone f z);
  kept = λ f. rw c.close.ensures (stored_then _ _ _ (c.in-Ok.ensures.opened f) (c.exchange-pushed.ensures.kept f));
  wear = rw c.close.ensures (then_lost c.in-Ok.ensures.wear c.exchange-pushed.ensures.wear);
  peer_wear = c.exchange-pushed.ensures.peer_wear;
}
