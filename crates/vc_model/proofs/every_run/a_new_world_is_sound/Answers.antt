use Rattle.vc_model.proofs.Kept.{new_is_sound as proved}
use Rattle.vc_model.proofs.every_run.a_new_world_is_sound.Goals as goal

pub returns : goal.returns
returns c = proved
