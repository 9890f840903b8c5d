use Rattle.vc_model.proofs.Kept.{clone_step_keeps as proved}
use Rattle.vc_model.proofs.every_step.a_step_keeps_a_clone.Goals as goal

pub returns : goal.returns
returns c = proved
