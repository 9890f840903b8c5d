use Rattle.std.proofs.Common.{rules}
use Rattle.vc_cli.proofs.ToldLemmas.{told_behind}
use Rattle.vc_cli.proofs.failure.Failure.report.Goals as goal
use Rattle.vc_cli.proofs.failure.Failure.report.Goals.{in-Some+in_ok-tell_line, in_default}

pub returns-clause-told : goal.returns-clause-told
returns-clause-told g c = elim c.match-behind.branch [
  | in-Some+in_ok-tell_line w ↦ told_behind _ _ (g.W.Write.contents c.print.new.stream) _ _ c.in_ok-print.ensures.line (search rules)
  | in_default w ↦ told_behind _ _ (g.W.Write.contents c.print.new.stream) _ _ c.in_ok-print.ensures.line (search rules)
]
