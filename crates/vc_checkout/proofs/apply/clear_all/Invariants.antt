use Rattle.std.proofs.Common.{◌≡◌, map}
use Rattle.std.specs.FinMap.{get}
use Rattle.vc_files.specs.Failures.{Wears, unstopped}
use Rattle.vc_checkout.specs.CheckedOut.{IsCleared}
use Rattle.vc_checkout.specs.WorkTree.{HasTextPaths}
use Rattle.vc_checkout.proofs.ApplyLemmas.{Working}
use Rattle.vc_work_tree.specs.Folders.{IsFolder}
use Rattle.vc_checkout.specs.FoldersAfter.{AreBetween, IsLeft, IsLeftBy}
use Rattle.vc_checkout.proofs.LeavingLemmas.{Leaving}
use Rattle.vc_checkout.proofs.apply.clear_all.Given as goal

abbrev pub invariant-loop-path : goal.invariant-loop-path
invariant-loop-path g l = record {
  old : l.old ≡ l.index;
  new : l.new ≡ l.tree;
  working : g.T.WorkTree.honest → Working (λ q. IsCleared (get l.index q) (get l.tree q)) (g.T.WorkTree.content l.fn.work) (g.T.WorkTree.content l.work) (map (λ e. e.0.items) l.path-iterator);
  texts : g.T.WorkTree.honest → HasTextPaths (g.T.WorkTree.content l.work);
  leaving : g.T.WorkTree.honest → Leaving (IsFolder (g.T.WorkTree.content l.fn.work) (g.T.WorkTree.folders l.fn.work)) (λ q. IsLeft (get l.index q) (get l.tree q) q) (g.T.WorkTree.content l.work) (g.T.WorkTree.folders l.work) (map (λ e. e.0.items) l.path-iterator);
  between : g.T.WorkTree.honest → AreBetween (g.T.WorkTree.content l.work) (g.T.WorkTree.folders l.work) (λ d. IsFolder (g.T.WorkTree.content l.fn.work) (g.T.WorkTree.folders l.fn.work) d × (IsLeftBy l.index l.tree d → ⊥)) (IsFolder (g.T.WorkTree.content l.fn.work) (g.T.WorkTree.folders l.fn.work));
  wear : Wears g.T.WorkTree.failed g.T.WorkTree.can_fail unstopped l.fn.work l.work ⊥;
}
