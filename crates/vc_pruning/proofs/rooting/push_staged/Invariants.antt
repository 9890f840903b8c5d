use Rattle.std.proofs.Common.{◌≡◌, ◌++◌, map}
use Rattle.std.specs.Prelude.{filter_map}
use Rattle.std.specs.FinMap.{entries}
use Rattle.vc_pruning.specs.Roots.{staged_in}
use Rattle.vc_pruning.proofs.rooting.push_staged.Given as goal

-- the ids so far and those of the rest are those that are wanted
abbrev pub invariant-loop-entry : goal.invariant-loop-entry
invariant-loop-entry l = (l.ids.items ++ filter_map staged_in (map (λ e. (e.0.items, e.1)) l.entry-iterator)) ≡ (l.fn.ids.items ++ filter_map staged_in (entries l.index))
