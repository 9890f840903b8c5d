use Rattle.std.proofs.Common.{◌≡◌, false, take}
use Rattle.std.specs.List.{list_any}
use Rattle.vc_push_rules.specs.Session.{is_passing}
use Rattle.vc_session.proofs.checking.next_passing.Given as goal

abbrev pub invariant-loop-i : goal.invariant-loop-i
invariant-loop-i l = list_any is_passing (take l.i l.verdicts) ≡ false
