use Rattle.std.proofs.Common.{rules}
use Rattle.vc_checkout.proofs.PathSetLemmas.{untracked_all}
use Rattle.vc_checkout.proofs.paths.file_paths.Goals as goal

pub returns-clause-files : goal.returns-clause-files
returns-clause-files g c = λ honest path. untracked_all c.in_ok-found.found _ (g.T.WorkTree.content c.args.work.now) (search rules) (c.in_ok-found.ensures.untracked honest) path
