use Rattle.std.proofs.Common.{◌≡◌, map}
use Rattle.vc_files.specs.Failures.{Wears}
use Rattle.vc_checkout.specs.Status.{seen}
use Rattle.vc_checkout.proofs.StatusLemmas.{SoFar}
use Rattle.vc_checkout.proofs.compare.changes.Given as goal

abbrev pub invariant-loop-path : goal.invariant-loop-path
invariant-loop-path g l = record {
  can : (goal.iterator-loop-path g).can_next l.path-iterator;
  finite : (goal.iterator-loop-path g).is_finite l.path-iterator;
  staged : l.staged ≡ l.index;
  listed : l.listed ≡ l.tree;
  so_far : g.T.WorkTree.honest → SoFar l.tree l.index (g.T.WorkTree.content l.fn.work) (map seen l.changes.items) (map (λ k. k.items) l.path-iterator);
  same : g.T.WorkTree.content l.work ≡ g.T.WorkTree.content l.fn.work;
  folders : g.T.WorkTree.folders l.work ≡ g.T.WorkTree.folders l.fn.work;
  wear : Wears g.T.WorkTree.failed g.T.WorkTree.can_fail g.T.WorkTree.left l.fn.work l.work ⊥;
}
