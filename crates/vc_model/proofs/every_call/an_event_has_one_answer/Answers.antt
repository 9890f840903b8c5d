use Rattle.vc_model.proofs.OneWorld.{world_has_one_answer as proved}
use Rattle.vc_model.proofs.every_call.an_event_has_one_answer.Goals as goal

pub returns : goal.returns
returns c = proved
