use Rattle.std.proofs.Common.{rules, ◌≡◌, Some, None, IsSome, sym, ◌∙◌, refl, subst}
use Rattle.vc_object.proofs.ObjectMaps.{parents_in-some}
use Rattle.vc_object.specs.Decoding.{stored_object}
use Rattle.vc_object.specs.Links.{parents_of}
use Rattle.vc_graph.proofs.ParentsLemmas.{stored_parents, carried_parents}
use Rattle.vc_object_map.specs.declared.source.Parents.TheVariants.{Of, NotCommit}
use Rattle.vc_graph.proofs.overlay.OverlayCommits.parents.Goals as goal

pub returns-in-Some-clause-answer : goal.returns-in-Some-clause-answer
returns-in-Some-clause-answer g c honest =
    let stored = g.O.Objects.objects (g.O.Objects.state_of c.args.self.now.stored.now) in
    let carried = g.C.Carried.carried c.args.self.now.carried.now in
    stored_parents stored carried c.args.id.now c.in-Some.parents (rw c.in-Some.is at (c.in_ok-parents.ensures.answer honest))

pub returns-in_default-find-clause-answer : goal.returns-in_default-find-clause-answer
returns-in_default-find-clause-answer g c honest =
    let stored = g.O.Objects.objects (g.O.Objects.state_of c.args.self.now.stored.now) in
    let carried = g.C.Carried.carried c.args.self.now.carried.now in
    let none : carried c.args.id.now ≡ None = search (rules, c.find.ensures, c.in_default-find.is) in
    carried_parents stored carried c.args.id.now None (rw c.in_default.is at (c.in_ok-parents.ensures.answer honest)) none

pub returns-in-Some-parents-clause-answer : goal.returns-in-Some-parents-clause-answer
returns-in-Some-parents-clause-answer g c honest =
    let stored = g.O.Objects.objects (g.O.Objects.state_of c.args.self.now.stored.now) in
    let carried = g.C.Carried.carried c.args.self.now.carried.now in
    let object = stored_object c.in-Some-find.object.kind c.in-Some-find.object.body.now in
    let absent : stored c.args.id.now ≡ None = rw c.in_default.is at (c.in_ok-parents.ensures.answer honest) in
    let found : carried c.args.id.now ≡ Some object = search (rules, c.find.ensures, c.in-Some-find.is) in
    let read : parents_of c.in-Some-find.object.kind c.in-Some-find.object.body.now ≡ Some c.in-Some-parents.ids.items = search rules in
    carried_parents stored carried c.args.id.now (Some (Of c.in-Some-parents.ids)) absent (parents_in-some carried c.args.id.now object found ∙ read)

pub returns-in-None-clause-answer : goal.returns-in-None-clause-answer
returns-in-None-clause-answer g c honest =
    let stored = g.O.Objects.objects (g.O.Objects.state_of c.args.self.now.stored.now) in
    let carried = g.C.Carried.carried c.args.self.now.carried.now in
    let object = stored_object c.in-Some-find.object.kind c.in-Some-find.object.body.now in
    let absent : stored c.args.id.now ≡ None = rw c.in_default.is at (c.in_ok-parents.ensures.answer honest) in
    let found : carried c.args.id.now ≡ Some object = search (rules, c.find.ensures, c.in-Some-find.is) in
    let read : parents_of c.in-Some-find.object.kind c.in-Some-find.object.body.now ≡ None = search rules in
    carried_parents stored carried c.args.id.now (Some NotCommit) absent (subst (λ o. IsSome o) (sym found) refl, parents_in-some carried c.args.id.now object found ∙ read)
