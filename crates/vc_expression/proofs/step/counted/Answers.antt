use Rattle.vc_expression.proofs.DigitLemmas.{all_digits}
use Rattle.vc_expression.proofs.step.counted.Goals as goal

pub number_of-requires-clause-digits : goal.number_of-requires-clause-digits
number_of-requires-clause-digits c = rw c.split_digits.ensures.digits (all_digits c.args.text.now)
