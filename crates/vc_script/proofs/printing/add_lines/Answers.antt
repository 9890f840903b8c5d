use Rattle.vc_script.proofs.PrintingLemmas.{one_line_more}
use Rattle.vc_script.proofs.printing.add_lines.Goals as goal

pub answers-preserved : goal.answers-preserved
answers-preserved c = one_line_more _ _ _ _ _ _ _ c.answers-test.true c.answer-item.is c.answers.invariant c.in_ok-add_line.ensures.line
