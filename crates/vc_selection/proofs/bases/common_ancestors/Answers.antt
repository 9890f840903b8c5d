use Rattle.std.proofs.Common.{[], ◌∷◌, None, refl, arith}
use Rattle.vc_history.proofs.GatheredLemmas.{all_there}
use Rattle.vc_history.proofs.GenerationLemmas.{agrees_where_none}
use Rattle.vc_selection.proofs.PartLemmas.{same_common}
use Rattle.vc_history.specs.Walk.{read_by}
use Rattle.vc_object.specs.ObjectMap.{parents_in}
use Rattle.vc_object.specs.declared.id.ObjectId.{ObjectId}
use Rattle.vc_selection.proofs.bases.common_ancestors.Goals as goal

pub returns-clause-common : goal.returns-clause-common
returns-clause-common g c honest id =
    let objects = g.C.Objects.objects (g.C.Objects.state_of c.args.commits.now) in
    let agrees = agrees_where_none (parents_in objects) (λ _. None) (λ x. refl) in
    let a : ObjectId = c.args.a.now in
    let b : ObjectId = c.args.b.now in
    let walk = c.in_ok-walk.walk in
    let common = c.in_ok-common.ensures id in
    let later = c.in_ok-sorted_from.ensures.later id in
    let same = same_common objects (λ _. None) (a ∷ b ∷ []) walk.met.keys (read_by walk) (c.in_ok-walk.ensures.gathered honest) agrees (λ r at. refl) (λ x. refl) a b (0, omega arith, refl) (1, omega arith, refl) id in
    (λ h. same.0 (common.0 (later.0 h).0), λ h. later.1 (common.1 (same.1 h), λ none. absurd (omega (arith, none.1))))

pub returns-clause-closed : goal.returns-clause-closed
returns-clause-closed g c honest =
    let objects = g.C.Objects.objects (g.C.Objects.state_of c.args.commits.now) in
    all_there _ _ _ _ _ (c.in_ok-walk.ensures.gathered honest) (agrees_where_none (parents_in objects) (λ _. None) (λ x. refl))
