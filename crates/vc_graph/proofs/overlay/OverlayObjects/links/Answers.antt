use Rattle.std.proofs.Common.{◌≡◌, Some, None, List, Option, ap, sym, ◌∙◌, rules}
use Rattle.std.specs.Option.{option_map, option_or}
use Rattle.vc_object.proofs.ObjectMaps.{links_in-none, links_in-some}
use Rattle.vc_object.specs.Decoding.{stored_object}
use Rattle.vc_object.specs.ObjectMap.{links_in}
use Rattle.vc_object.specs.declared.id.ObjectId.{ObjectId}
use Rattle.vc_object_map.proofs.OverlayLemmas.{links_in-with_carried}
use Rattle.vc_graph.proofs.overlay.OverlayObjects.links.Goals as goal

pub returns-in-Some-clause-answer : goal.returns-in-Some-clause-answer
returns-in-Some-clause-answer g c honest =
    let stored = g.O.Objects.objects (g.O.Objects.state_of c.args.self.now.stored.now) in
    let carried = g.C.Carried.carried c.args.self.now.carried.now in
    let id = c.args.id.now in
    let found : Some c.in-Some.links.items ≡ links_in stored id = ap (option_map (λ v. v.items)) (sym c.in-Some.is) ∙ c.in_ok-links.ensures.answer honest in
    ap (λ (o : Option (List ObjectId)). option_or o (links_in carried id)) found ∙ sym (links_in-with_carried stored carried id)

pub returns-in_default-find-clause-answer : goal.returns-in_default-find-clause-answer
returns-in_default-find-clause-answer g c honest =
    let stored = g.O.Objects.objects (g.O.Objects.state_of c.args.self.now.stored.now) in
    let carried = g.C.Carried.carried c.args.self.now.carried.now in
    let id = c.args.id.now in
    let absent : None ≡ links_in stored id = ap (option_map (λ v. v.items)) (sym c.in_default.is) ∙ c.in_ok-links.ensures.answer honest in
    let none : carried id ≡ None = search (rules, c.find.ensures, c.in_default-find.is) in
    sym (links_in-none carried id none) ∙ ap (λ (o : Option (List ObjectId)). option_or o (links_in carried id)) absent ∙ sym (links_in-with_carried stored carried id)

pub returns-clause-answer : goal.returns-clause-answer
returns-clause-answer g c honest =
    let stored = g.O.Objects.objects (g.O.Objects.state_of c.args.self.now.stored.now) in
    let carried = g.C.Carried.carried c.args.self.now.carried.now in
    let id = c.args.id.now in
    let object = stored_object c.in-Some-find.object.kind c.in-Some-find.object.body.now in
    let absent : None ≡ links_in stored id = ap (option_map (λ v. v.items)) (sym c.in_default.is) ∙ c.in_ok-links.ensures.answer honest in
    let found : carried id ≡ Some object = search (rules, c.find.ensures, c.in-Some-find.is) in
    let read : Some c.in_ok-links-2.links.items ≡ links_in carried id = ap Some c.in_ok-links-2.ensures.value ∙ sym (links_in-some carried id object found) in
    read ∙ ap (λ (o : Option (List ObjectId)). option_or o (links_in carried id)) absent ∙ sym (links_in-with_carried stored carried id)
