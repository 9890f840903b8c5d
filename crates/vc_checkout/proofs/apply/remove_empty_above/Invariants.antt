use Rattle.std.proofs.Common.{◌≡◌, length}
use denote.Text.{Utf8}
use denote.Shadow.{shadow}
use Rattle.vc_files.specs.Failures.{Wears, unstopped}
use Rattle.vc_index.specs.Path.{IsAbove}
use Rattle.vc_work_tree.specs.Folders.{AreFolders, IsAtOrIn, IsFolder}
use Rattle.vc_checkout.proofs.apply.remove_empty_above.Given as goal

-- of the folders above the path, those above where it stands are left
abbrev pub invariant-loop-folder : goal.invariant-loop-folder
invariant-loop-folder g l = record {
  text : shadow (Utf8 l.below);
  inside : IsAtOrIn l.below l.path;
  chain : g.T.WorkTree.honest → AreFolders (g.T.WorkTree.content l.work) (g.T.WorkTree.folders l.work) (λ d. IsFolder (g.T.WorkTree.content l.fn.work) (g.T.WorkTree.folders l.fn.work) d × (IsAbove d l.path → IsAbove d l.below));
  same : g.T.WorkTree.content l.work ≡ g.T.WorkTree.content l.fn.work;
  wear : Wears g.T.WorkTree.failed g.T.WorkTree.can_fail unstopped l.fn.work l.work ⊥;
}

abbrev pub decreases-loop-folder : goal.decreases-loop-folder
decreases-loop-folder g l = length l.below
