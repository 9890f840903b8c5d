use Rattle.std.proofs.Common.{◌≡◌, ◌≤◌, drop, true}
use Rattle.std.specs.List.{list_all}
use Rattle.vc_object.specs.Header.{number, number_after}
use Rattle.vc_script.specs.Words.{is_digit}
use Rattle.vc_script.proofs.words.number_of.Given as goal

abbrev pub invariant-loop-digit : goal.invariant-loop-digit
invariant-loop-digit l = record {
  small : l.number ≤ 999999999;
  digits : list_all is_digit (drop l.digit-index l.digits) ≡ true;
  same : number_after l.number (drop l.digit-index l.digits) ≡ number l.digits;
}
