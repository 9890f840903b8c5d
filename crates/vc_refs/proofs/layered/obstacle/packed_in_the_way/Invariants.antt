use Rattle.vc_refs.proofs.LayeredObstacleLemmas.{LooksOn}
use Rattle.vc_refs.proofs.layered.obstacle.packed_in_the_way.Given as goal

-- the refs that were passed by don't conflict
abbrev pub invariant-loop-other : goal.invariant-loop-other
invariant-loop-other l = LooksOn l.refs l.name l.other-iterator
