use Rattle.vc_shared.proofs.ServingLaws.{list_answers, want_answers}
use Rattle.vc_shared.proofs.serving.what_is_served_is_the_machines.Goals as goal

pub returns-clause-list : goal.returns-clause-list
returns-clause-list c = list_answers

pub returns-clause-want : goal.returns-clause-want
returns-clause-want c = want_answers
