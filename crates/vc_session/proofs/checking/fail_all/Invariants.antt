use Rattle.std.proofs.Common.{◌≡◌, map, take}
use Rattle.vc_push_rules.specs.Turn.{failed_with_others}
use Rattle.vc_session.proofs.checking.fail_all.Given as goal

abbrev pub invariant-loop-verdict : goal.invariant-loop-verdict
invariant-loop-verdict l = l.after.items ≡ map failed_with_others (take l.verdict-index l.verdicts)
