use Rattle.std.proofs.Common.{◌≡◌}
use Rattle.vc_reading.proofs.again.refused_revision.Given as goal

abbrev pub invariant-loop-revision : goal.invariant-loop-revision
invariant-loop-revision g l = g.F.Files.content l.files ≡ g.F.Files.content l.fn.files
