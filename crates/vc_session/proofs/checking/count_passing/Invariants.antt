use Rattle.std.proofs.Common.{◌≡◌, take}
use Rattle.std.specs.Prelude.{count_by}
use Rattle.vc_push_rules.specs.Session.{is_passing}
use Rattle.vc_session.proofs.checking.count_passing.Given as goal

abbrev pub invariant-loop-verdict : goal.invariant-loop-verdict
invariant-loop-verdict l = l.passing ≡ count_by is_passing (take l.verdict-index l.verdicts)
