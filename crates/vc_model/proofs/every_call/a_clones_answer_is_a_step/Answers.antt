use Rattle.vc_model.proofs.CloneAnswers.{clone_answers_are_steps as proved}
use Rattle.vc_model.proofs.every_call.a_clones_answer_is_a_step.Goals as goal

pub returns : goal.returns
returns c = proved
