use Rattle.std.proofs.Common.{take}
use Rattle.indexmap.specs.IndexMap.{get}
use Rattle.vc_object.specs.ObjectId.{id_eq}
use Rattle.vc_history.proofs.NumberingLemmas.{Greatest}
use Rattle.vc_history.proofs.numbering.number_over.Given as goal

abbrev pub invariant-loop-parent : goal.invariant-loop-parent
invariant-loop-parent l = Greatest (get id_eq l.known) (take l.parent-index l.parents) l.greatest
