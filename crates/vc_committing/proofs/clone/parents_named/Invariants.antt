use Rattle.std.proofs.Common.{◌≡◌, map, take}
use Rattle.vc_files.specs.Failures.{Wears}
use Rattle.vc_committing.specs.Steps.{AreDenoted}
use Rattle.vc_committing.proofs.clone.parents_named.Given as goal

abbrev pub invariant-loop-revision : goal.invariant-loop-revision
invariant-loop-revision g l = record {
  same : g.F.Files.content l.files ≡ g.F.Files.content l.fn.files;
  named : g.F.Files.honest → AreDenoted (g.F.Files.content l.fn.files) (map (λ revision. revision.now) (take l.revision-index l.revisions)) l.parents.items;
  wear : Wears g.F.Files.failed g.F.Files.can_fail g.F.Files.left l.fn.files l.files ⊥;
}
