use Rattle.std.proofs.Common.{◌≡◌, map, take}
use Rattle.vc_message.specs.Machine.{machine_told}
use Rattle.vc_model.specs.Clone.{refused_reasons}
use Rattle.vc_push.specs.ReportView.{told_of}
use Rattle.vc_exchange.proofs.receiving.refused_numbers.Given as goal

abbrev pub invariant-loop-command : goal.invariant-loop-command
invariant-loop-command l = l.numbers.items ≡ refused_reasons (map machine_told (map told_of (take l.command-index l.told)))
