use Rattle.vc_shared.proofs.LearningLemmas.{due_learnt, set_due}
use Rattle.vc_shared.proofs.laws.a_value_that_was_set_is_learnt.Goals as goal

pub returns-clause-due : goal.returns-clause-due
returns-clause-due c = set_due

pub returns-clause-learnt : goal.returns-clause-learnt
returns-clause-learnt c = due_learnt
