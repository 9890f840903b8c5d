use Rattle.std.proofs.Common.{◌≡◌, ◌+◌, [], List, Some, None, ap, sym, ◌∙◌, rules, subst, take, get_or, slice_get}
use Rattle.indexmap.specs.IndexSet.{insert_all}
use Rattle.std.proofs.lemmas.Option.{slice_get-get_or}
use Rattle.std.specs.Option.{option_map}
use Rattle.vc_object_map.proofs.KnownLemmas.{Learns, Learns-absent, Learns-next, Learns-part, Learns-some, IsClosedUnder-linked, grown-inserted, take-inserted}
use Rattle.vc_object.proofs.IdLemmas.{id_eq-same}
use Rattle.vc_object.specs.ObjectId.{id_eq}
use Rattle.vc_object.specs.ObjectMap.{links_in}
use Rattle.vc_object.specs.declared.id.ObjectId.{ObjectId}
use Rattle.vc_graph.proofs.known.learn_links.Goals as goal
use Rattle.vc_graph.proofs.known.learn_links.Goals.{in-Some+in_ok-add_names, in_default}

pub loop-name-preserved : goal.loop-name-preserved
loop-name-preserved g c =
    let before = c.loop-name.invariant in
    let first = c.args.known.now.keys in
    let seen = c.loop-name.known.keys in
    let names = c.args.names.now in
    let place = c.loop-name.name-index in
    let none : ObjectId = record { 0 = [] } in
    let name : ObjectId = get_or names place none in
    let at : slice_get names place ≡ Some name = slice_get-get_or names place none c.loop-name-test.true in
    let links = links_in (g.O.Objects.objects (g.O.Objects.state_of c.args.objects.now)) in
    let call = c.in_ok-links.ensures in
    let answer = λ (honest : g.O.Objects.is_honest). ap (λ state. links_in (g.O.Objects.objects state) name) (sym before.kept) ∙ sym (call.answer honest) in
    record {
      kept = call.kept ∙ before.kept;
      wear = search rules;
      grown = elim c.match-branch-2.branch [
        | in-Some+in_ok-add_names w ↦
            let added : c.match-branch-2.known.keys ≡ insert_all id_eq seen w.deref.result.now = ap (λ s. s.keys) w.known-is ∙ w.in_ok-add_names.ensures.added in
            grown-inserted id_eq first seen w.deref.result.now c.match-branch-2.known.keys before.grown added
        | in_default w ↦ (before.grown.0, ap (λ s. s.keys) w.known-is ∙ before.grown.1)
      ];
      learns = λ honest. elim c.match-branch-2.branch [
        | in-Some+in_ok-add_names w ↦
            let ys : List ObjectId = w.in-Some.links.items in
            let added : c.match-branch-2.known.keys ≡ insert_all id_eq seen ys = ap (λ s. s.keys) w.known-is ∙ w.in_ok-add_names.ensures.added ∙ ap (insert_all id_eq seen) w.deref.ensures.value in
            Learns-next links first names seen place name at (before.learns honest) id_eq id_eq-same ys (answer honest ∙ ap (option_map (λ v. v.items)) w.in-Some.is) c.match-branch-2.known.keys added
        | in_default w ↦
            let absent : links name ≡ None = answer honest ∙ ap (option_map (λ v. v.items)) w.in_default.is in
            subst (Learns links first (take (place + 1) names)) (sym (ap (λ s. s.keys) w.known-is)) (Learns-absent links first names seen place name at (before.learns honest) absent)
      ];
    }

pub returns-in_err-links-clause-known : goal.returns-in_err-links-clause-known
returns-in_err-links-clause-known g c honest known_whole names_whole =
    let links = links_in (g.O.Objects.objects (g.O.Objects.state_of c.args.objects.now)) in
    let first = c.args.known.now.keys in
    let names = c.args.names.now in
    let only = Learns-some links first names c.loop-name.known.keys c.loop-name.name-index (c.loop-name.invariant.learns honest) in
    IsClosedUnder-linked links first names c.loop-name.known.keys only known_whole names_whole

pub returns-in_err-add_names-clause-known : goal.returns-in_err-add_names-clause-known
returns-in_err-add_names-clause-known g c honest known_whole names_whole =
    let before = c.loop-name.invariant in
    let links = links_in (g.O.Objects.objects (g.O.Objects.state_of c.args.objects.now)) in
    let first = c.args.known.now.keys in
    let seen = c.loop-name.known.keys in
    let names = c.args.names.now in
    let place = c.loop-name.name-index in
    let none : ObjectId = record { 0 = [] } in
    let name : ObjectId = get_or names place none in
    let ys : List ObjectId = c.in-Some.links.items in
    let links_of : links name ≡ Some ys = ap (λ state. links_in (g.O.Objects.objects state) name) (sym before.kept) ∙ sym (c.in_ok-links.ensures.answer honest) ∙ ap (option_map (λ v. v.items)) c.in-Some.is in
    let some = c.in_err-add_names.ensures.err in
    let added : c.add_names.new.set.keys ≡ insert_all id_eq seen (take some.0 ys) = rw c.deref.ensures.value at some.1 in
    let only = Learns-part links first names seen place (before.learns honest) id_eq name ys some.0 c.add_names.new.set.keys (slice_get-get_or names place none c.loop-name-test.true) links_of added in
    IsClosedUnder-linked links first names c.add_names.new.set.keys only known_whole names_whole

pub returns-in_err-add_names-clause-front : goal.returns-in_err-add_names-clause-front
returns-in_err-add_names-clause-front g c =
    let some = c.in_err-add_names.ensures.err in
    take-inserted id_eq c.args.known.now.keys c.loop-name.known.keys (take some.0 c.deref.result.now) c.add_names.new.set.keys c.loop-name.invariant.grown some.1

pub returns-clause-known : goal.returns-clause-known
returns-clause-known g c honest known_whole names_whole =
    let links = links_in (g.O.Objects.objects (g.O.Objects.state_of c.args.objects.now)) in
    let first = c.args.known.now.keys in
    let names = c.args.names.now in
    let only = Learns-some links first names c.loop-name.known.keys c.loop-name.name-index (c.loop-name.invariant.learns honest) in
    IsClosedUnder-linked links first names c.loop-name.known.keys only known_whole names_whole
