use Rattle.std.proofs.Common.{rules}
use Rattle.vc_commands.proofs.PerformLemmas.{errs_both, over_lock}
use Rattle.vc_commands.specs.Performs.{PrunesStore}
use Rattle.vc_commands.proofs.performing.prune_store.Goals as goal

pub returns : goal.returns
returns g c = over_lock (λ s m. PrunesStore g.S.Files.Files.honest s m (g.S.Stores.content c.prune.new.stores) (g.O.Write.contents c.args.output.now) (g.O.Write.contents c.prune.new.output) c.prune.result)
    (g.S.Stores.of c.in_ok-lock.lock) c.args.store.now (g.S.Stores.content c.lock.new.self) (g.S.Stores.content c.args.stores.now) c.in_ok-lock.ensures.of c.lock.ensures.same
    (record {
      changed = c.prune.ensures.pruned;
      refused = λ h. errs_both _ _ c.prune.result (c.prune.ensures.refused h) (c.prune.ensures.left h);
      always = c.prune.ensures.some;
      others = c.prune.ensures.others;
    })
