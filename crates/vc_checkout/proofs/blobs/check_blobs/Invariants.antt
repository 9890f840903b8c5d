use Rattle.std.proofs.Common.{◌≡◌, map}
use Rattle.std.specs.Cmp.Lexicographic.{slice_cmp}
use Rattle.std.specs.FinMap.{get}
use Rattle.std.specs.List.Sorted.{IsStrictlySortedBy}
use Rattle.std.specs.Ordering.{nat_cmp}
use Rattle.vc_files.specs.Failures.{Wears}
use Rattle.vc_object_map.specs.Store.{objects}
use Rattle.vc_checkout.specs.Blobs.{HasDueBlob}
use Rattle.vc_checkout.proofs.ClearLemmas.{Holds}
use Rattle.vc_checkout.proofs.blobs.check_blobs.Given as goal

abbrev pub invariant-loop-path : goal.invariant-loop-path
invariant-loop-path g l = record {
  old : l.old ≡ l.index;
  new : l.new ≡ l.tree;
  sorted : IsStrictlySortedBy (slice_cmp nat_cmp) (map (λ e. e.0.items) l.path-iterator);
  blobs : g.F.Files.honest → Holds (λ q. HasDueBlob (objects (g.F.Files.content l.fn.files)) (get l.index q) (get l.tree q)) (map (λ e. e.0.items) l.path-iterator);
  same : g.F.Files.content l.files ≡ g.F.Files.content l.fn.files;
  wear : Wears g.F.Files.failed g.F.Files.can_fail g.F.Files.left l.fn.files l.files ⊥;
}
