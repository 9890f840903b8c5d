use Rattle.std.proofs.Common.{◌≡◌, Option, Some, None, List, IsSome, refl}
use Rattle.vc_object_map.proofs.WalkLemmas.{ReachedFrom-one, Reaches-from_one}
use Rattle.vc_object.proofs.ObjectMaps.{parents_in-none}
use Rattle.vc_object.specs.ObjectMap.{parents_in}
use Rattle.vc_object.specs.declared.id.ObjectId.{ObjectId}
use Rattle.vc_history.proofs.GatheredLemmas.{all_there}
use Rattle.vc_history.proofs.GenerationLemmas.{agrees_where_none}
use Rattle.vc_history.proofs.ancestry.is_history.Goals as goal

no_parents : (o : Option (List ObjectId)) → o ≡ None → IsSome o → ⊥
no_parents None e h = cc h
no_parents (Some ids) e h = cc e

pub returns-in_default-clause-history : goal.returns-in_default-clause-history
returns-in_default-clause-history g c honest =
    let parents = parents_in (g.C.Objects.objects (g.C.Objects.state_of c.args.commits.now)) in
    let agrees = agrees_where_none parents (λ _. None) (λ x. refl) in
    (λ yes y r. all_there _ _ _ _ _ (c.in_default.ensures.gathered honest) agrees y (ReachedFrom-one parents c.args.root.now y r), λ all. refl)

pub returns-in-Missing-clause-history : goal.returns-in-Missing-clause-history
returns-in-Missing-clause-history g c honest =
    let objects = g.C.Objects.objects (g.C.Objects.state_of c.args.commits.now) in
    let id = c.in-Missing.field-0 in
    let agrees = agrees_where_none (parents_in objects) (λ _. None) (λ x. refl) in
    let told = rw c.in-Missing.is at (c.in-Err.ensures.refused honest agrees) in
    (λ yes. absurd (cc yes), λ all. absurd (no_parents (parents_in objects id) (parents_in-none objects id told.1) (all id (Reaches-from_one (parents_in objects) c.args.root.now id told.0))))
