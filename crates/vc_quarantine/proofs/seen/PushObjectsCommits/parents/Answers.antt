use Rattle.std.proofs.Common.{rules, ◌≡◌, Some, None, IsSome, sym, ◌∙◌, refl, subst}
use Rattle.vc_object.proofs.ObjectMaps.{parents_in-some}
use Rattle.vc_object.specs.Decoding.{stored_object}
use Rattle.vc_object.specs.Links.{parents_of}
use Rattle.vc_push_rules.specs.Quarantine.{objects_seen}
use Rattle.vc_quarantine.proofs.seen.PushObjectsCommits.parents.Goals as goal

pub returns-in-Some-parents-clause-answer : goal.returns-in-Some-parents-clause-answer
returns-in-Some-parents-clause-answer g c = λ honest.
    let seen = objects_seen (g.F.Files.content c.args.self.now.files.now) c.args.self.now.slot in
    let object = stored_object c.in-Some.found.kind c.in-Some.found.body.items in
    let found : seen c.args.id.now ≡ Some object = search (rules, c.in_ok-found.ensures.found honest, c.in-Some.is) in
    let read : parents_of c.in-Some.found.kind c.in-Some.found.body.items ≡ Some c.in-Some-parents.ids.items = search rules in
    parents_in-some seen c.args.id.now object found ∙ read

pub returns-clause-answer : goal.returns-clause-answer
returns-clause-answer g c = λ honest.
    let seen = objects_seen (g.F.Files.content c.args.self.now.files.now) c.args.self.now.slot in
    let object = stored_object c.in-Some.found.kind c.in-Some.found.body.items in
    let found : seen c.args.id.now ≡ Some object = search (rules, c.in_ok-found.ensures.found honest, c.in-Some.is) in
    let read : parents_of c.in-Some.found.kind c.in-Some.found.body.items ≡ None = search rules in
    (subst (λ o. IsSome o) (sym found) refl, parents_in-some seen c.args.id.now object found ∙ read)
