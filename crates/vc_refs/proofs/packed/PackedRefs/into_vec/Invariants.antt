use Rattle.std.proofs.Common.{◌≡◌, ◌++◌}
use Rattle.std.specs.FinMap.{entries}
use Rattle.vc_refs.proofs.packed.PackedRefs.into_vec.Given as goal

-- the refs so far and those that are left are all
abbrev pub invariant-loop-entry : goal.invariant-loop-entry
invariant-loop-entry l = l.refs.items ++ l.entry-iterator ≡ entries l.fn.self
