use Rattle.vc_node.proofs.LearningLemmas.{due_learnt, set_due}
use Rattle.vc_node.proofs.learning.a_value_that_a_ref_was_set_to_is_learnt.Goals as goal

pub returns-clause-due : goal.returns-clause-due
returns-clause-due c = set_due

pub returns-clause-learnt : goal.returns-clause-learnt
returns-clause-learnt c = due_learnt
