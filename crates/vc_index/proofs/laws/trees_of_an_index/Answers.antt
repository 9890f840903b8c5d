use Rattle.vc_index.proofs.CompletionLemmas.{has_trees}
use Rattle.vc_index.proofs.OneListLemmas.{one_list}
use Rattle.vc_index.proofs.laws.trees_of_an_index.Goals as goal

pub returns-clause-there : goal.returns-clause-there
returns-clause-there c = has_trees

pub returns-clause-one : goal.returns-clause-one
returns-clause-one c = one_list
