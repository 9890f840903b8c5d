use Rattle.std.proofs.Common.{rules, ◌≡◌, Some, refl}
use Rattle.vc_object.specs.Decoding.{stored_object}
use Rattle.vc_object_map.specs.Store.{objects}
use Rattle.vc_known.proofs.stored.StoreKinds.look.Goals as goal

pub returns-in_default-clause-answer : goal.returns-in_default-clause-answer
returns-in_default-clause-answer g c = λ honest. search (rules, c.in_ok-found.ensures.finds.found honest, c.in_default.is)

pub returns-clause-answer : goal.returns-clause-answer
returns-clause-answer g c = λ honest.
    let content = g.F.Files.content c.args.self.now.files.now in
    let object = stored_object c.in-Some.found.kind c.in-Some.found.body.items in
    let found : objects content c.args.id.now ≡ Some object = search (rules, c.in_ok-found.ensures.finds.found honest, c.in-Some.is) in
    record { object = object; there = found; kind = refl; links = search rules }
