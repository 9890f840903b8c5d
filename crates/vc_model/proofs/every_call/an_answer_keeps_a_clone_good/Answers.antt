use Rattle.vc_model.proofs.Good.{clone_answer_keeps_good as proved}
use Rattle.vc_model.proofs.every_call.an_answer_keeps_a_clone_good.Goals as goal

pub returns : goal.returns
returns c = proved
