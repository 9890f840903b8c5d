use Rattle.std.proofs.Common.{◌≡◌, not, filter, take}
use Rattle.indexmap.specs.IndexSet.{insert_all}
use Rattle.vc_object.specs.ObjectId.{id_eq}
use Rattle.vc_selection.proofs.bases.add_others.Given as goal

abbrev pub invariant-loop-name : goal.invariant-loop-name
invariant-loop-name l = l.passed.keys ≡ insert_all id_eq l.initial.passed.keys (filter (λ x. not (id_eq x l.id)) (take l.name-index l.names))
