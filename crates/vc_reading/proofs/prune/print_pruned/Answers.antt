use Rattle.std.proofs.Common.{rules}
use Rattle.vc_reading.proofs.PruneLemmas.{told_late}
use Rattle.vc_reading.proofs.prune.print_pruned.Goals as goal

pub returns-in_err-told-clause-untold : goal.returns-in_err-told-clause-untold
returns-in_err-told-clause-untold g c =
    told_late c.in-Ok.count c.args.pruned (g.O.Write.contents c.args.output.now) (g.O.Write.contents c.print_count.new.output) c.from_residual-in_err-told.result c.in-Ok.is (search rules) c.in_ok-print_count.ensures.line
