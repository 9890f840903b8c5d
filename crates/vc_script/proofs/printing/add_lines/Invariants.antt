use Rattle.std.proofs.Common.{take}
use Rattle.vc_script.specs.Printing.{AddsLines}
use Rattle.vc_script.proofs.printing.add_lines.Given as goal

abbrev pub invariant-answers : goal.invariant-answers
invariant-answers l = AddsLines l.letters (take l.answer-index l.answers) l.initial.text.items l.text.items
