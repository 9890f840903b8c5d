use Rattle.std.proofs.Common.{◌≡◌, ℕ, ◌<◌, get_or, take, false}
use Rattle.vc_checkout.specs.WorkTree.{has_path}
use Rattle.vc_checkout.proofs.hindrance.has_above.Given as goal

-- no folder so far is one of the paths
abbrev pub invariant-loop-i : goal.invariant-loop-i
invariant-loop-i l = (k : ℕ) → k < l.i → get_or l.path k 0 ≡ 47 → has_path l.paths (take k l.path) ≡ false
