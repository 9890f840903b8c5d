use Rattle.std.proofs.Common.{◌≡◌, ◌∷◌, [], Contains, ap, sym, ◌∙◌, refl, arith, rules, subst, take, None, true≢false}
use Rattle.indexmap.specs.IndexSet.{insert_all}
use Rattle.std.proofs.lemmas.Grind.{common_steps}
use Rattle.std.specs.Option.{option_map}
use Rattle.vc_object_map.proofs.FaultLemmas.{IsMet-from_refused}
use Rattle.vc_object_map.proofs.KnownLemmas.{Beyond, Beyond-start, Beyond-step, Beyond-reached, Beyond-absent, Beyond-closed, Beyond-met, grown-inserted, rooted-start, take-inserted}
use Rattle.vc_object_map.proofs.WalkLemmas.{Contains-insert_all_old, ReachedFrom-one}
use Rattle.vc_object_map.specs.Graph.{ReachedFrom}
use Rattle.vc_object.proofs.IdLemmas.{id_eq-same}
use Rattle.vc_object.specs.ObjectId.{id_eq}
use Rattle.vc_object.specs.ObjectMap.{links_in}
use Rattle.vc_graph.proofs.known.walk_beyond.Goals as goal

pub loop-next-init : goal.loop-next-init
loop-next-init g c =
    let before = c.args.known.now.keys in
    let root = c.args.root.now in
    let links = links_in (g.O.Objects.objects (g.O.Objects.state_of c.args.objects.now)) in
    let added : c.add_names.new.set.keys ≡ insert_all id_eq before (root ∷ []) = c.in_ok-add_names.ensures.added in
    record {
      kept = refl;
      wear = search rules;
      grown = grown-inserted id_eq before before (root ∷ []) c.add_names.new.set.keys ([], grind (arith, common_steps)) added;
      rooted = rooted-start links before root id_eq id_eq-same c.add_names.new.set.keys added;
      behind = omega (arith, c.len-next.ensures.len);
      walks = λ honest. subst (Beyond links before root c.add_names.new.set.keys) (sym c.len-next.ensures.len) (Beyond-start links before root id_eq id_eq-same c.add_names.new.set.keys added);
    }

pub loop-next-preserved : goal.loop-next-preserved
loop-next-preserved g c =
    let before = c.loop-next.invariant in
    let first = c.args.known.now.keys in
    let ys = c.in-Some.links.items in
    let seen = c.loop-next.known.keys in
    let now = c.add_names-in-loop-next.new.set.keys in
    let links = links_in (g.O.Objects.objects (g.O.Objects.state_of c.args.objects.now)) in
    let added : now ≡ insert_all id_eq seen ys = c.in_ok-add_names-2.ensures.added ∙ ap (insert_all id_eq seen) c.deref.ensures.value in
    let call = c.in_ok-links.ensures in
    record {
      kept = call.kept ∙ before.kept;
      wear = search rules;
      grown = grown-inserted id_eq first seen ys now before.grown added;
      rooted = subst (λ l. Contains l c.args.root.now) (sym added) (Contains-insert_all_old id_eq seen ys c.args.root.now before.rooted);
      behind = omega (arith, before.behind);
      walks = λ honest. Beyond-step links first c.args.root.now id_eq id_eq-same seen now ys c.loop-next.next c.index.result.now (before.walks honest) before.behind c.index.ensures
          (ap (λ state. links_in (g.O.Objects.objects state) c.index.result.now) (sym before.kept) ∙ sym (call.answer honest) ∙ ap (option_map (λ v. v.items)) c.in-Some.is) added;
    }

pub returns-in_err-links-clause-refused : goal.returns-in_err-links-clause-refused
returns-in_err-links-clause-refused g c =
    let before = c.loop-next.invariant in
    let links = links_in (g.O.Objects.objects (g.O.Objects.state_of c.args.objects.now)) in
    let damaged = g.O.Objects.damaged (g.O.Objects.state_of c.args.objects.now) in
    let refused = rw before.kept at c.in_err-links.ensures.refused in
    let told = λ (honest : g.O.Objects.is_honest). IsMet-from_refused (ReachedFrom links (c.args.root.now ∷ [])) damaged g.O.Objects.is_honest c.index.result.now _ refused
    (ReachedFrom-one links c.args.root.now c.index.result.now (Beyond-reached links c.args.known.now.keys c.args.root.now c.loop-next.known.keys c.loop-next.next c.index.result.now (before.walks honest) before.behind c.index.ensures)) honest in
    grind (arith, common_steps, told)

pub returns-in_default-clause-complete : goal.returns-in_default-clause-complete
returns-in_default-clause-complete g c honest whole =
    let before = c.loop-next.invariant in
    let links = links_in (g.O.Objects.objects (g.O.Objects.state_of c.args.objects.now)) in
    let id = c.index.result.now in
    let none : links id ≡ None = ap (λ state. links_in (g.O.Objects.objects state) id) (sym before.kept) ∙ sym (c.in_ok-links.ensures.answer honest) ∙ ap (option_map (λ v. v.items)) c.in_default.is in (
      λ yes. absurd (true≢false (sym yes)),
      λ all. absurd (Beyond-absent links c.args.known.now.keys c.args.root.now c.loop-next.known.keys c.loop-next.next id (before.walks honest) before.behind c.index.ensures none all),
    )

pub returns-in_err-add_names-2-clause-front : goal.returns-in_err-add_names-2-clause-front
returns-in_err-add_names-2-clause-front g c =
    let some = c.in_err-add_names-2.ensures.err in
    take-inserted id_eq c.args.known.now.keys c.loop-next.known.keys (take some.0 c.deref.result.now) c.add_names-in-loop-next.new.set.keys c.loop-next.invariant.grown some.1

pub returns-clause-complete : goal.returns-clause-complete
returns-clause-complete g c honest whole =
    let before = c.loop-next.invariant in
    let links = links_in (g.O.Objects.objects (g.O.Objects.state_of c.args.objects.now)) in
    let closed = Beyond-closed links c.args.known.now.keys c.args.root.now c.loop-next.known.keys before.grown.0 c.loop-next.next before.grown.1 (before.walks honest) (omega (arith, c.len.ensures.len, c.loop-next-test.false)) whole in
    (λ yes y r. closed y (record { root = c.args.root.now; is_root = before.rooted; reaches = r }), λ all. refl)

pub returns-clause-known : goal.returns-clause-known
returns-clause-known g c honest answered whole =
    let before = c.loop-next.invariant in
    let links = links_in (g.O.Objects.objects (g.O.Objects.state_of c.args.objects.now)) in
    Beyond-closed links c.args.known.now.keys c.args.root.now c.loop-next.known.keys before.grown.0 c.loop-next.next before.grown.1 (before.walks honest) (omega (arith, c.len.ensures.len, c.loop-next-test.false)) whole

pub returns-clause-met : goal.returns-clause-met
returns-clause-met g c honest answered =
    let before = c.loop-next.invariant in
    let links = links_in (g.O.Objects.objects (g.O.Objects.state_of c.args.objects.now)) in
    Beyond-met links c.args.known.now.keys c.args.root.now c.loop-next.known.keys before.grown.0 c.loop-next.next before.grown.1 (before.walks honest) (omega (arith, c.len.ensures.len, c.loop-next-test.false)) before.rooted
