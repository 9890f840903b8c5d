use Rattle.std.proofs.Common.{◌≡◌, length}
use Rattle.vc_expression.specs.SetReading.{after_spaces}
use Rattle.vc_expression.proofs.set.after_spaces.Given as goal

abbrev pub invariant-spaces : goal.invariant-spaces
invariant-spaces l = after_spaces l.rest ≡ after_spaces l.text

abbrev pub decreases-spaces : goal.decreases-spaces
decreases-spaces l = length l.rest
