use Rattle.std.specs.Prelude.{ℕ, List}
use Rattle.vc_expression.specs.declared.token.Step.{Step}

-- what stands at the front of a text: a step and what follows it, no step, or a step that goes wrong
pub data Seen : Type 0 where
  Found : Step → List ℕ → Seen
  Other : Seen
  Fault : Seen
