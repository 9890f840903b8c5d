use Rattle.std.proofs.Common.{◌≡◌, map}
use Rattle.std.specs.FinMap.{get}
use Rattle.vc_files.specs.Failures.{Wears}
use Rattle.vc_checkout.specs.Settling.{AreSettled, IsSettledAt}
use Rattle.vc_checkout.specs.Steps.{IsUnwritten}
use Rattle.vc_checkout.specs.WorkTree.{AreApart}
use Rattle.vc_checkout.proofs.ClearLemmas.{Holds}
use Rattle.vc_checkout.proofs.settling.settle.Given as goal

abbrev pub invariant-loop-path : goal.invariant-loop-path
invariant-loop-path g l = record {
  can : (goal.iterator-loop-path g).can_next l.path-iterator;
  finite : (goal.iterator-loop-path g).is_finite l.path-iterator;
  so_far : g.T.WorkTree.honest → AreSettled l.index l.tree (g.T.WorkTree.content l.fn.work) l.settled;
  done : g.T.WorkTree.honest → AreApart (g.T.WorkTree.content l.fn.work) → Holds (λ q. IsSettledAt l.index l.tree (g.T.WorkTree.content l.fn.work) q (get l.settled q)) (map (λ k. k.items) l.path-iterator);
  same : IsUnwritten g.T.WorkTree.content g.T.WorkTree.folders g.T.WorkTree.left l.fn.work l.work;
  holds : g.T.WorkTree.can_hold l.work ≡ g.T.WorkTree.can_hold l.fn.work;
  wear : Wears g.T.WorkTree.failed g.T.WorkTree.can_fail g.T.WorkTree.left l.fn.work l.work ⊥;
}
