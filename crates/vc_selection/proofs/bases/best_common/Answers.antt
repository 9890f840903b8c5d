use Rattle.vc_selection.proofs.BestLemmas.{best-from_passed, passed-from_best}
use Rattle.vc_history.specs.Walk.{graph_of}
use Rattle.vc_object.proofs.IdLemmas.{id_eq_equiv, id_eq-same}
use Rattle.vc_selection.proofs.bases.best_common.Goals as goal

pub returns-clause-best : goal.returns-clause-best
returns-clause-best c id =
    let graph = graph_of c.args.walk.now in
    let common = c.in_ok-common.common.keys in
    let is = c.in_ok-common.ensures in
    let passed = rw c.as_slice.ensures.keys at (c.in_ok-passed.ensures id) in
    let differs = c.in_ok-bases.ensures.difference id in (
      λ h. let d = differs.0 h in best-from_passed graph id_eq_equiv id_eq-same c.args.a.now c.args.b.now common is id (d.0, λ p. d.1 (passed.1 p)),
      λ best. let d = passed-from_best graph id_eq_equiv id_eq-same c.args.a.now c.args.b.now common is id best in differs.1 (d.0, λ p. d.1 (passed.0 p)),
    )
