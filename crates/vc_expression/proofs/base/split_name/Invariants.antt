use Rattle.std.proofs.Common.{◌≡◌, ◌++◌, take, drop}
use Rattle.vc_expression.specs.Base.{after_name, name_of}
use Rattle.vc_expression.proofs.base.split_name.Given as goal

abbrev pub invariant-loop-i : goal.invariant-loop-i
invariant-loop-i l = record {
  name : name_of l.text ≡ take l.i l.text ++ name_of (drop l.i l.text);
  rest : after_name (drop l.i l.text) ≡ after_name l.text;
}
