use Rattle.std.proofs.Common.{◌≤◌}
use Rattle.vc_files.specs.Failures.{Writes}
use Rattle.vc_pruning.proofs.RemovingLemmas.{IsLeft, IsPassed}
use Rattle.vc_pruning.specs.Removing.{SparesFiles, Takes}
use Rattle.vc_pruning.proofs.removing.remove_others.Given as goal

abbrev pub invariant-loop-name : goal.invariant-loop-name
invariant-loop-name g l = record {
  takes : g.F.Files.honest → Takes l.kept (g.F.Files.content l.initial.files) (g.F.Files.content l.files) l.removed;
  spares : g.F.Files.honest → SparesFiles (g.F.Files.content l.initial.files) (g.F.Files.content l.files);
  left : g.F.Files.honest → IsLeft l.kept l.name-items l.name-index (g.F.Files.content l.files);
  passed : g.F.Files.honest → IsPassed l.kept l.name-items l.name-index (g.F.Files.content l.initial.files);
  few : l.removed ≤ l.name-index;
  wear : Writes g.F.Files.honest g.F.Files.content g.F.Files.failed g.F.Files.can_fail g.F.Files.left l.initial.files l.files ⊥;
}
