use Rattle.vc_model.proofs.Runs.{stays_sound as proved}
use Rattle.vc_model.proofs.every_run.every_node_stays_sound.Goals as goal

pub returns : goal.returns
returns c = proved
