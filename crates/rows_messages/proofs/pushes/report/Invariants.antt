use Rattle.std.specs.List.{All}
use Rattle.vc_push.specs.Report.{IsShortTold}
use Rattle.vc_push.specs.ReportView.{told_of}
use Rattle.rows_messages.proofs.pushes.report.Given as goal

abbrev pub invariant-words : goal.invariant-words
invariant-words l = All (λ t. IsShortTold (told_of t)) l.told.items
