use Rattle.vc_model.proofs.OneShared.{shared_has_one_answer as proved}
use Rattle.vc_model.proofs.every_call.a_shared_node_has_one_answer.Goals as goal

pub returns : goal.returns
returns c = proved
