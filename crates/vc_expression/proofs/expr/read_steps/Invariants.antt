use Rattle.std.proofs.Common.{length}
use Rattle.vc_expression.specs.Faults.{Reads}
use Rattle.vc_expression.specs.Views.{IsEnd, StandsSteps, steps_view}
use Rattle.vc_expression.proofs.expr.read_steps.Given as goal

abbrev pub invariant-steps : goal.invariant-steps
invariant-steps l = record {
  read : Reads l.text (steps_view l.tokens) l.rest;
  rest : IsEnd l.rest l.source;
  slices : StandsSteps l.source l.text l.tokens.items l.rest;
}

abbrev pub decreases-steps : goal.decreases-steps
decreases-steps l = length l.rest
