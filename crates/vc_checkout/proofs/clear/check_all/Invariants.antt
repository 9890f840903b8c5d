use Rattle.std.proofs.Common.{◌≡◌, map}
use Rattle.std.specs.Prelude.{IsUtf8}
use Rattle.std.specs.FinMap.{get}
use Rattle.std.specs.List.Sorted.{IsStrictlySortedBy}
use Rattle.std.specs.Cmp.Lexicographic.{slice_cmp}
use Rattle.std.specs.Ordering.{nat_cmp}
use Rattle.vc_files.specs.Failures.{Wears}
use Rattle.vc_checkout.specs.Refusal.{IsClear, IsDue}
use Rattle.vc_checkout.proofs.ClearLemmas.{Holds}
use Rattle.vc_checkout.proofs.clear.check_all.Given as goal

abbrev pub invariant-loop-path : goal.invariant-loop-path
invariant-loop-path g l = record {
  can : (goal.iterator-loop-path g).can_next l.path-iterator;
  finite : (goal.iterator-loop-path g).is_finite l.path-iterator;
  old : l.old ≡ l.index;
  new : l.new ≡ l.tree;
  sorted : IsStrictlySortedBy (slice_cmp nat_cmp) (map (λ k. k.items) l.path-iterator);
  clear : g.T.WorkTree.honest → Holds (IsClear l.index l.tree (g.T.WorkTree.content l.fn.work)) (map (λ k. k.items) l.path-iterator);
  text : Holds (λ path. IsDue (get l.index path) (get l.tree path) → IsUtf8 path) (map (λ k. k.items) l.path-iterator);
  same : g.T.WorkTree.content l.work ≡ g.T.WorkTree.content l.fn.work;
  folders : g.T.WorkTree.folders l.work ≡ g.T.WorkTree.folders l.fn.work;
  wear : Wears g.T.WorkTree.failed g.T.WorkTree.can_fail g.T.WorkTree.left l.fn.work l.work ⊥;
}
