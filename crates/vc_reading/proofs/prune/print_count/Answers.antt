use Rattle.vc_cli.proofs.PrintLemmas.{front_none, on_err}
use Rattle.vc_reading.proofs.prune.print_count.Goals as goal

pub returns-in_err-line-clause-front : goal.returns-in_err-line-clause-front
returns-in_err-line-clause-front g c = on_err _ (front_none (g.O.Write.contents c.args.output.now) _)
