use Rattle.std.proofs.Common.{◌≡◌, ℕ, List, take}
use Rattle.vc_checkout.proofs.PathSetLemmas.{AreUnkept}
use Rattle.vc_checkout.proofs.paths.unkept_paths.Given as goal

-- of the paths so far, those at which the index keeps no file were found
abbrev pub invariant-loop-path : goal.invariant-loop-path
invariant-loop-path g l = (l.known ≡ l.index) × ((path : List ℕ) → AreUnkept l.found l.index (take l.path-index l.path-items) path)
