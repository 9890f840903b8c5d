use Rattle.vc_model.proofs.Runs.{every_node_closed as proved}
use Rattle.vc_model.proofs.every_run.every_node_is_closed.Goals as goal

pub returns : goal.returns
returns c = proved
