use Rattle.std.proofs.Common.{◌≡◌, ◌++◌, take, drop}
use Rattle.vc_expression.specs.Digits.{after_digits, digits_of}
use Rattle.vc_expression.proofs.digits.split_digits.Given as goal

abbrev pub invariant-loop-i : goal.invariant-loop-i
invariant-loop-i l = record {
  digits : digits_of l.text ≡ take l.i l.text ++ digits_of (drop l.i l.text);
  rest : after_digits (drop l.i l.text) ≡ after_digits l.text;
}
