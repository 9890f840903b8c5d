use Rattle.std.proofs.Common.{rules}
use Rattle.vc_checkout.proofs.SettlingLemmas.{path_settled, still_settled}
use Rattle.vc_checkout.proofs.settling.settle_path.Goals as goal

pub returns-clause-settles : goal.returns-clause-settles
returns-clause-settles g c = λ honest apart. path_settled c.args.index.now c.args.tree.now (g.T.WorkTree.content c.args.work.now) (search rules) (search rules) apart c.args.path.now c.args.settled.now c.put.new.settled c.in_ok-entry.entry (c.requires.so_far honest) (search rules) c.in_ok-put.ensures.puts

pub returns-clause-so_far : goal.returns-clause-so_far
returns-clause-so_far g c = λ honest. still_settled c.args.index.now c.args.tree.now (g.T.WorkTree.content c.args.work.now) c.args.path.now c.args.settled.now c.put.new.settled c.in_ok-entry.entry (c.requires.so_far honest) (search rules) c.in_ok-put.ensures.puts
