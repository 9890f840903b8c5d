use Rattle.std.proofs.Common.{◌≡◌, ◌++◌}
use Rattle.vc_exchange.proofs.receiving.listed.Given as goal

-- those that are listed, and those that are left, are all of them
abbrev pub invariant-loop-name : goal.invariant-loop-name
invariant-loop-name l = l.listed.items ++ l.name-iterator ≡ l.fn.refs.entries
