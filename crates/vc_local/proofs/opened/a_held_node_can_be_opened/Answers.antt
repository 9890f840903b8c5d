use Rattle.vc_local.proofs.OpeningLaws.{held_nodes_open}
use Rattle.vc_local.proofs.opened.a_held_node_can_be_opened.Goals as goal

pub returns : goal.returns
returns c = held_nodes_open
