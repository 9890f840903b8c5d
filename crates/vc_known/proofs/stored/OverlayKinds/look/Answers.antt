use Rattle.std.proofs.Common.{◌≡◌, Some, None, refl, rules, subst}
use Rattle.vc_object.specs.Decoding.{stored_object}
use Rattle.vc_known.proofs.ShowsLemmas.{Shows-carried, Shows-stored, with_carried-none}
use Rattle.vc_known.specs.Seen.{IsSeen, Shows}
use Rattle.vc_known.proofs.stored.OverlayKinds.look.Goals as goal

pub returns-in-Some-clause-answer : goal.returns-in-Some-clause-answer
returns-in-Some-clause-answer g c honest =
    let stored = g.O.Objects.objects (g.O.Objects.state_of c.args.self.now.stored.now) in
    let carried = g.C.Carried.carried c.args.self.now.carried.now in
    let id = c.args.id.now in
    Shows-stored stored carried id c.in-Some.seen (subst (λ o. IsSeen stored id o) c.in-Some.is (c.in_ok-seen.ensures.answer honest))

pub returns-in_default-find-clause-answer : goal.returns-in_default-find-clause-answer
returns-in_default-find-clause-answer g c honest =
    let stored = g.O.Objects.objects (g.O.Objects.state_of c.args.self.now.stored.now) in
    let carried = g.C.Carried.carried c.args.self.now.carried.now in
    let id = c.args.id.now in
    let absent : stored id ≡ None = subst (λ o. IsSeen stored id o) c.in_default.is (c.in_ok-seen.ensures.answer honest) in
    let none : carried id ≡ None = search (rules, c.find.ensures, c.in_default-find.is) in
    with_carried-none stored carried id absent none

pub returns-clause-answer : goal.returns-clause-answer
returns-clause-answer g c honest =
    let stored = g.O.Objects.objects (g.O.Objects.state_of c.args.self.now.stored.now) in
    let carried = g.C.Carried.carried c.args.self.now.carried.now in
    let id = c.args.id.now in
    let object = stored_object c.in-Some-find.object.kind c.in-Some-find.object.body.now in
    let absent : stored id ≡ None = subst (λ o. IsSeen stored id o) c.in_default.is (c.in_ok-seen.ensures.answer honest) in
    let found : carried id ≡ Some object = search (rules, c.find.ensures, c.in-Some-find.is) in
    let shows : Shows carried id _ = record { object = object; there = found; kind = refl; links = c.in_ok-links.ensures.value } in
    Shows-carried stored carried id _ absent shows
