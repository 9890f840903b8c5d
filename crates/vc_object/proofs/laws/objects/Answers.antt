use Rattle.vc_object.proofs.Uniqueness.{objects_unique, objects_prefix_free}
use Rattle.vc_object.proofs.laws.objects.Goals as goal

pub returns-clause-unique : goal.returns-clause-unique
returns-clause-unique c = objects_unique

pub returns-clause-prefix_free : goal.returns-clause-prefix_free
returns-clause-prefix_free c = objects_prefix_free
