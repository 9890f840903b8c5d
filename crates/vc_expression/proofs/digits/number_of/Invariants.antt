use Rattle.std.proofs.Common.{◌≡◌, ◌<◌, ◌^◌, drop}
use Rattle.std.specs.List.{AllByRecursion}
use Rattle.vc_expression.specs.Digits.{IsDigit, number_after, number}
use Rattle.vc_expression.proofs.digits.number_of.Given as goal

abbrev pub invariant-loop-digit : goal.invariant-loop-digit
invariant-loop-digit l = record {
  small : l.number < 10 ^ l.digit-index;
  digits : AllByRecursion IsDigit (drop l.digit-index l.digits);
  same : number_after l.number (drop l.digit-index l.digits) ≡ number l.digits;
}
