use Rattle.std.proofs.Common.{◌≡◌, ℕ, ◌<◌, get_or, take, None}
use Rattle.std.specs.FinMap as paths
use Rattle.vc_index.specs.IndexMap.{index_of}
use Rattle.vc_index.proofs.index.has_file_above.Given as goal

-- no folder so far is a file
abbrev pub invariant-loop-i : goal.invariant-loop-i
invariant-loop-i l = (k : ℕ) → k < l.i → get_or l.path k 0 ≡ 47 → paths.get (index_of l.map) (take k l.path) ≡ None
