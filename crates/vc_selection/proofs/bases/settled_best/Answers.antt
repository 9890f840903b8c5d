use Rattle.std.proofs.Common.{[], ◌∷◌, inl, inr, ⊎_elim, refl, arith, rules, sym, subst, Contains, IsTrue}
use Rattle.vc_object_map.specs.Graph.{Reaches, ReachedFrom, itself, onward}
use Rattle.vc_object_map.proofs.WalkLemmas.{Reaches-trans}
use Rattle.vc_object.proofs.IdLemmas.{id_eq_equiv, id_eq-same}
use Rattle.vc_object.specs.declared.id.ObjectId.{ObjectId}
use Rattle.vc_selection.proofs.BestLemmas.{best-from_passed, passed-from_best}
use Rattle.vc_selection.proofs.PartLemmas.{LinksTo-part}
use Rattle.vc_history.specs.Walk.{graph_of, graph_read, read_by}
use Rattle.vc_selection.proofs.bases.settled_best.Goals as goal

pub returns-clause-best : goal.returns-clause-best
returns-clause-best c id =
    let graph = graph_of c.args.walk.now in
    let common = c.in_ok-common.common.keys in
    let is = c.in_ok-common.ensures in
    let passed = rw c.as_slice.ensures.keys at (c.in_ok-passed.ensures id) in
    let differs = c.in_ok-bases.ensures.difference id in (
      λ h. let d = differs.0 h in best-from_passed graph id_eq_equiv id_eq-same c.args.a.now c.args.b.now common is id (d.0, λ p. d.1 (passed.1 p)),
      λ best. let d = passed-from_best graph id_eq_equiv id_eq-same c.args.a.now c.args.b.now common is id best in differs.1 (d.0, λ p. d.1 (passed.0 p)),
    )

pub returns-clause-settled : goal.returns-clause-settled
returns-clause-settled c y way =
    let met = c.args.walk.now.met.keys in
    let read = read_by c.args.walk.now in
    let graph = graph_read met read in
    let a : ObjectId = c.args.a.now in
    let b : ObjectId = c.args.b.now in
    let all_are : IsTrue c.each_is_among.result = search rules in
    let from_roots : ReachedFrom graph (a ∷ b ∷ []) y = ⊎_elim (λ (r : Reaches graph a y). record { root = a; is_root = (0, omega arith, refl); reaches = r })
    (λ (r : Reaches graph b y). record { root = b; is_root = (1, omega arith, refl); reaches = r }) way in
    let at = (c.in_ok-reached.ensures y).1 from_roots in
    ⊎_elim inl
    (λ under.
    let r = (rw c.as_slice-2.ensures.keys at (c.in_ok-below.ensures y)).0 under in
    let passed = (rw c.as_slice.ensures.keys at (c.in_ok-passed.ensures r.root)).0 r.is_root in
    inr (passed.child, (c.in_ok-common.ensures passed.child).0 passed.is_among, (LinksTo-part met read passed.child r.root passed.links).0, Reaches-trans graph (onward itself passed.links) r.reaches))
    (c.each_is_among.ensures all_are y (subst (λ l. Contains l y) (sym c.as_slice-3.ensures.keys) at))
