use Rattle.std.proofs.Common.{◌≡◌, map, take}
use Rattle.vc_push_rules.specs.Session.{fresh}
use Rattle.vc_session.proofs.opening.fresh.Given as goal

abbrev pub invariant-loop-command : goal.invariant-loop-command
invariant-loop-command l = record {
  verdict : l.verdict ≡ fresh l.fn.fault;
  verdicts : l.verdicts.items ≡ map (λ c. fresh l.fn.fault) (take l._command-index l.commands);
}
