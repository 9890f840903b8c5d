use Rattle.std.proofs.Common.{Some, subst}
use Rattle.vc_object_map.specs.Parents.{AreParents}
use Rattle.vc_object_map.specs.declared.source.Parents.TheVariants.{Of}
use Rattle.vc_known.proofs.known.Known.parents_above.Goals as goal

pub returns-in-Of-clause-parents : goal.returns-in-Of-clause-parents
returns-in-Of-clause-parents g c honest y at =
    let objects = g.C.Objects.objects (g.C.Objects.state_of c.args.commits.now) in
    let id = c.args.id.now in
    let found : AreParents objects id (Some c.in-Some.found) = subst (λ o. AreParents objects id o) c.in-Some.is (c.in_ok-found.ensures.answer honest) in
    let answer : AreParents objects id (Some (Of c.in-Of.ids)) = subst (λ p. AreParents objects id (Some p)) c.in-Of.is found in
    (c.in-Of.ids.items, answer, at)
