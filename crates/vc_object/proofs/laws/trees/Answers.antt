use Rattle.vc_object.proofs.Uniqueness.{trees_are_sets, sets_unique, trees_unique}
use Rattle.vc_object.proofs.laws.trees.Goals as goal

pub returns-clause-sets : goal.returns-clause-sets
returns-clause-sets c = trees_are_sets

pub returns-clause-one_set : goal.returns-clause-one_set
returns-clause-one_set c = sets_unique

pub returns-clause-unique : goal.returns-clause-unique
returns-clause-unique c = trees_unique
