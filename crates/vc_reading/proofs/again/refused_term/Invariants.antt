use Rattle.std.proofs.Common.{◌≡◌}
use Rattle.vc_reading.proofs.again.refused_term.Given as goal

abbrev pub invariant-loop-term : goal.invariant-loop-term
invariant-loop-term g l = g.F.Files.content l.files ≡ g.F.Files.content l.fn.files
