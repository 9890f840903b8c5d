use Rattle.std.proofs.Common.{◌≡◌, take}
use Rattle.std.specs.List.{AllByRecursion}
use Rattle.vc_files.specs.Failures.{Wears}
use Rattle.vc_push_rules.specs.Known.{AreRefsWhole}
use Rattle.vc_quarantine.specs.Known.{AreWhole}
use Rattle.vc_object_map.specs.Store.{objects}
use Rattle.vc_local.specs.Commit.{IsGoodParent}
use Rattle.vc_local.proofs.committing.refuse_bad_parents.Given as goal

abbrev pub invariant-loop-parent : goal.invariant-loop-parent
invariant-loop-parent g l = record {
  good : g.F.Files.honest → AllByRecursion (IsGoodParent (g.F.Files.content l.fn.files)) (take l.parent-index l.parents);
  known : g.F.Files.honest → AreRefsWhole (g.F.Files.content l.fn.files) → AreWhole (objects (g.F.Files.content l.fn.files)) l.known;
  wear : Wears g.F.Files.failed g.F.Files.can_fail g.F.Files.left l.fn.files l.files ⊥;
  same : g.F.Files.content l.files ≡ g.F.Files.content l.fn.files;
}
