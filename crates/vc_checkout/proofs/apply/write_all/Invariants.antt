use Rattle.std.proofs.Common.{◌≡◌, ◌⊎◌, map}
use Rattle.std.specs.FinMap.{get}
use Rattle.vc_files.specs.Failures.{unstopped}
use Rattle.vc_object_map.specs.Store.{objects}
use Rattle.vc_checkout.specs.CheckedOut.{IsWritten}
use Rattle.vc_checkout.specs.Devices.{WearsEither}
use Rattle.vc_checkout.proofs.ApplyLemmas.{Working}
use Rattle.vc_work_tree.specs.Folders.{IsFolder}
use Rattle.vc_checkout.specs.FoldersAfter.{AreBetween, GivesWayBy, IsMadeBy}
use Rattle.vc_checkout.proofs.MakingLemmas.{Making}
use Rattle.vc_checkout.proofs.apply.write_all.Given as goal

abbrev pub invariant-loop-path : goal.invariant-loop-path
invariant-loop-path g l = record {
  old : l.old ≡ l.index;
  new : l.new ≡ l.tree;
  working : g.T.WorkTree.honest → g.F.Files.honest → Working (λ q. IsWritten (objects (g.F.Files.content l.fn.files)) (get l.index q) (get l.tree q)) (g.T.WorkTree.content l.fn.work) (g.T.WorkTree.content l.work) (map (λ e. e.0.items) l.path-iterator);
  making : g.T.WorkTree.honest → g.F.Files.honest → Making l.index l.tree (g.T.WorkTree.content l.fn.work) (g.T.WorkTree.folders l.fn.work) (g.T.WorkTree.content l.work) (g.T.WorkTree.folders l.work) (map (λ e. e.0.items) l.path-iterator);
  between : g.T.WorkTree.honest → AreBetween (g.T.WorkTree.content l.work) (g.T.WorkTree.folders l.work) (λ d. IsFolder (g.T.WorkTree.content l.fn.work) (g.T.WorkTree.folders l.fn.work) d × (GivesWayBy l.index l.tree d → ⊥)) (λ d. IsFolder (g.T.WorkTree.content l.fn.work) (g.T.WorkTree.folders l.fn.work) d ⊎ IsMadeBy l.index l.tree d);
  same : g.F.Files.content l.files ≡ g.F.Files.content l.fn.files;
  wear : WearsEither g.T.WorkTree.failed g.T.WorkTree.can_fail unstopped g.F.Files.failed g.F.Files.can_fail g.F.Files.left l.fn.work l.work l.fn.files l.files ⊥;
}
