use Rattle.std.proofs.Common.{◌≡◌, map, take}
use Rattle.vc_push.specs.ReportView.{told_of}
use Rattle.vc_tracking.specs.Moving.{told_in}
use Rattle.vc_exchange.specs.Receiving.{accepted}
use Rattle.vc_exchange.proofs.receiving.accepted.Given as goal

abbrev pub invariant-loop-command : goal.invariant-loop-command
invariant-loop-command l = told_in l.refs.items ≡ accepted (map told_of (take l.command-index l.told))
