use Rattle.vc_history.proofs.StoredLemmas.{keeps_same}
use Rattle.vc_node.proofs.KeepingLemmas.{both_kept}
use Rattle.vc_node.proofs.node.CloneNode.index.Goals as goal

pub invariant_of-self : goal.invariant_of-self
invariant_of-self g c = λ honest. (both_kept _ _ c.self.inside.known c.self.inside.generations (keeps_same _ _ c.in-Ok.ensures.same) (c.self.invariant honest).0, tt)

pub invariant_of-self-in-Err : goal.invariant_of-self-in-Err
invariant_of-self-in-Err g c = λ honest. (both_kept _ _ c.self.inside.known c.self.inside.generations (keeps_same _ _ c.in-Err.ensures.same) (c.self.invariant honest).0, tt)
