use Rattle.vc_model.proofs.Desk.{desk_closed as proved}
use Rattle.vc_model.proofs.every_log.a_served_node_stays_closed.Goals as goal

pub returns : goal.returns
returns c = proved
