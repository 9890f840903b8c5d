use Rattle.vc_model.proofs.Good.{new_is_good as proved}
use Rattle.vc_model.proofs.every_call.a_new_world_is_good.Goals as goal

pub returns : goal.returns
returns c = proved
