use Rattle.std.proofs.Common.{rules, ◌++◌, ap, map}
use Rattle.vc_checkout.proofs.PathSetLemmas.{entry_keys}
use Rattle.vc_checkout.proofs.paths.push_paths.Goals as goal

pub loop-path-init : goal.loop-path-init
loop-path-init c = ap (λ l. map (λ p. p.items) c.args.paths.now.items ++ l) (entry_keys c.into_iter-path-iterator.result c.args.index.now (search rules))
