use Rattle.vc_shared.proofs.RestartLemmas.{held_open}
use Rattle.vc_shared.proofs.laws.a_held_shared_node_can_be_opened.Goals as goal

pub returns : goal.returns
returns c = held_open
