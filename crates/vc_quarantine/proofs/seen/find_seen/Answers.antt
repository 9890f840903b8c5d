use Rattle.std.proofs.Common.{rules, ◌≡◌, Some, None, sym, ◌∙◌, inr, subst}
use Rattle.vc_files.specs.FileMap.{FileMap}
use Rattle.vc_object.specs.Decoding.{stored_object}
use Rattle.vc_object_map.specs.Store.{objects}
use Rattle.vc_object_map.specs.StoreFault.{IsRefused}
use Rattle.vc_quarantine.specs.PushState.{IsDamagedSeen}
use Rattle.vc_push_rules.specs.Quarantine.{quarantined, IsDamagedThere}
use Rattle.vc_quarantine.proofs.SeenLemmas.{seen_stored, seen_carried, refused_more}
use Rattle.vc_quarantine.proofs.seen.find_seen.Goals as goal

pub returns-in_err-carried-clause-refused : goal.returns-in_err-carried-clause-refused
returns-in_err-carried-clause-refused g c =
    let content = g.F.Files.content in
    let id = c.args.id.now in
    let e = c.in_err-carried.field-0.0 in
    let told : IsRefused id (g.F.Files.honest → IsDamagedSeen (content c.args.files.now) c.args.slot id) e = refused_more id e
    (λ there honest. inr (subst (λ (m : FileMap). IsDamagedThere m c.args.slot id) c.in_ok-stored.ensures.same (there honest))) c.in_err-carried.ensures.refused in
    search (rules, told)

pub returns-in-Some-clause-found : goal.returns-in-Some-clause-found
returns-in-Some-clause-found g c = λ honest.
    let content = g.F.Files.content c.args.files.now in
    let object = stored_object c.in-Some.stored.kind c.in-Some.stored.body.items in
    let found : objects content c.args.id.now ≡ Some object = search (rules, c.in_ok-stored.ensures.finds.found honest, c.in-Some.is) in
    sym (seen_stored content c.args.slot c.args.id.now object found)

pub returns-clause-found : goal.returns-clause-found
returns-clause-found g c = λ honest.
    let content = g.F.Files.content c.args.files.now in
    let none : objects content c.args.id.now ≡ None = search (rules, c.in_ok-stored.ensures.finds.found honest, c.in_default.is) in
    let there : quarantined (g.F.Files.content c.find.new.files) c.args.slot c.args.id.now ≡ quarantined content c.args.slot c.args.id.now = search (rules, c.in_ok-stored.ensures.same) in
    c.in_ok-carried.ensures.found honest ∙ there ∙ sym (seen_carried content c.args.slot c.args.id.now none)
