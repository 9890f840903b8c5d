use Rattle.vc_shared.proofs.PushingLemmas.{push_answers}
use Rattle.vc_shared.proofs.PushingTexts.{reads_tellable}
use Rattle.vc_shared.proofs.pushing.a_push_is_opened_as_the_machine_does.Goals as goal

pub returns-clause-told : goal.returns-clause-told
returns-clause-told c = reads_tellable

pub returns-clause-answers : goal.returns-clause-answers
returns-clause-answers c = push_answers
