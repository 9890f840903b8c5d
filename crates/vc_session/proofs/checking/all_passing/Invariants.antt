use Rattle.std.proofs.Common.{◌≡◌, true, take}
use Rattle.std.specs.List.{list_all}
use Rattle.vc_push_rules.specs.Session.{is_passing}
use Rattle.vc_session.proofs.checking.all_passing.Given as goal

abbrev pub invariant-loop-verdict : goal.invariant-loop-verdict
invariant-loop-verdict l = list_all is_passing (take l.verdict-index l.verdicts) ≡ true
