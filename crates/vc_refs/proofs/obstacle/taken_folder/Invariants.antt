use Rattle.std.proofs.Common.{◌≡◌}
use Rattle.vc_files.specs.Failures.{Wears}
use Rattle.vc_refs.proofs.ObstacleLemmas.{NoneShorter}
use Rattle.vc_refs.proofs.obstacle.taken_folder.Given as goal

abbrev pub invariant-loop-i : goal.invariant-loop-i
invariant-loop-i g l = record {
  none_shorter : g.F.Files.honest → NoneShorter (g.F.Files.content l.fn.files) l.path l.i;
  same : g.F.Files.content l.files ≡ g.F.Files.content l.fn.files;
  wear : Wears g.F.Files.failed g.F.Files.can_fail g.F.Files.left l.fn.files l.files ⊥;
}
