use Rattle.vc_model.proofs.Kept.{shared_step_keeps as proved}
use Rattle.vc_model.proofs.every_step.a_step_keeps_the_shared_node.Goals as goal

pub returns : goal.returns
returns c = proved
