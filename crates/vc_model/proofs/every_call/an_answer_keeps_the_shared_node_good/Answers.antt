use Rattle.vc_model.proofs.Good.{shared_answer_keeps_good as proved}
use Rattle.vc_model.proofs.every_call.an_answer_keeps_the_shared_node_good.Goals as goal

pub returns : goal.returns
returns c = proved
