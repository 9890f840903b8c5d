use Rattle.std.proofs.Common.{rules, ◌≡◌, Some, None, sym}
use Rattle.vc_object.proofs.ObjectMaps.{links_in-none, links_in-some}
use Rattle.vc_object.specs.Decoding.{stored_object}
use Rattle.vc_object_map.specs.Store.{objects}
use Rattle.vc_store.proofs.source.StoreObjects.links.Goals as goal

pub returns-in_default-clause-answer : goal.returns-in_default-clause-answer
returns-in_default-clause-answer g c = λ honest.
    let content = g.F.Files.content c.args.self.now.files.now in
    let none : objects content c.args.id.now ≡ None = search (rules, c.in_ok-found.ensures.finds.found honest, c.in_default.is) in
    sym (links_in-none (objects content) c.args.id.now none)

pub returns-clause-answer : goal.returns-clause-answer
returns-clause-answer g c = λ honest.
    let content = g.F.Files.content c.args.self.now.files.now in
    let object = stored_object c.in-Some.found.kind c.in-Some.found.body.items in
    let found : objects content c.args.id.now ≡ Some object = search (rules, c.in_ok-found.ensures.finds.found honest, c.in-Some.is) in
    let read = links_in-some (objects content) c.args.id.now object found in
    search (rules, read)
