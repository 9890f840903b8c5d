use Rattle.std.proofs.Common.{rules}
use Rattle.vc_commands.proofs.PerformLemmas.{unlocked_told}
use Rattle.vc_commands.proofs.performing.work_on.Goals as goal

pub returns-in-Status : goal.returns-in-Status
returns-in-Status g c = λ bodies input. rw c.in-Status.is record {
  printed = c.status.ensures.printed;
  refused = λ t. c.status.ensures.refused;
  nothing = c.status.ensures.nothing_printed;
  front = c.status.ensures.front;
  stores = c.status.ensures.stores;
  trees = c.status.ensures.trees;
}

pub returns-in_err-lock : goal.returns-in_err-lock
returns-in_err-lock g c = λ bodies input.
    unlocked_told g.S.Files.Files.content g.S.Stores.is_durable (record { honest = g.S.Files.Files.honest; trees_honest = g.T.Tree.WorkTree.honest; can_hold = g.T.WorkTrees.can_hold c.args.trees.now; own = g.T.WorkTrees.own c.args.trees.now; bodies = bodies; input = input })
    c.args.lists c.args.store.now (g.S.Stores.content c.args.stores.now) (g.S.Stores.content c.lock.new.self) (g.T.WorkTrees.trees c.args.trees.now) (g.O.Write.contents c.args.output.now) c.args.task c.in_err-lock.field-0.0 c.from_residual.result
    (search rules) (search rules) c.lock.ensures.same
