use Rattle.std.proofs.Common.{◌≡◌, map}
use Rattle.std.specs.Cmp.Lexicographic.{slice_cmp}
use Rattle.std.specs.List.Sorted.{IsStrictlySortedBy}
use Rattle.std.specs.Ordering.{nat_cmp}
use Rattle.vc_checkout.specs.Holding.{HoldsDueAt}
use Rattle.vc_checkout.proofs.ClearLemmas.{Holds}
use Rattle.vc_checkout.proofs.holding.check_held.Given as goal

abbrev pub invariant-loop-path : goal.invariant-loop-path
invariant-loop-path g l = record {
  old : l.old ≡ l.index;
  new : l.new ≡ l.tree;
  sorted : IsStrictlySortedBy (slice_cmp nat_cmp) (map (λ e. e.0.items) l.path-iterator);
  held : Holds (HoldsDueAt (g.T.WorkTree.can_hold l.work) l.index l.tree) (map (λ e. e.0.items) l.path-iterator);
}
