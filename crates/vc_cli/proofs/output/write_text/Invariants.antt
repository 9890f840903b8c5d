use Rattle.vc_cli.specs.Printed.{AppendsUpTo}
use Rattle.vc_cli.proofs.output.write_text.Given as goal

abbrev pub invariant-loop : goal.invariant-loop
invariant-loop g l = AppendsUpTo (g.O.Write.contents l.fn.output) (g.O.Write.contents l.output) l.text l.rest
