use Rattle.std.proofs.Common.{◌≡◌, ℕ, List, map, true, false}
use Rattle.std.specs.Prelude.{IsSome}
use Rattle.std.specs.FinMap as maps
use Rattle.vc_work_tree.specs.Paths.{is_listed}
use Rattle.vc_work_folder.specs.Own.{meets_own}
use Rattle.vc_working.proofs.checkout.has_own.Given as goal

-- of the paths that are not among the rest none is the store's own, and the rest are the index's
abbrev pub invariant-loop-path : goal.invariant-loop-path
invariant-loop-path l = record {
  apart : (q : List ℕ) → is_listed q (map (λ e. e.0.items) l.path-iterator) ≡ false → IsSome (maps.get l.index q) → meets_own l.own q ≡ false;
  held : (q : List ℕ) → is_listed q (map (λ e. e.0.items) l.path-iterator) ≡ true → IsSome (maps.get l.index q);
}
