use Rattle.std.proofs.Common.{◌≡◌, take}
use Rattle.vc_script.specs.Printing.{refused_words}
use Rattle.vc_script.proofs.printing.refused_words.Given as goal

abbrev pub invariant-numbers : goal.invariant-numbers
invariant-numbers l = l.line.items ≡ refused_words (take l.number-index l.numbers)
