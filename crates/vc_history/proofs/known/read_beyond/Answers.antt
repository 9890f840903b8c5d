use Rattle.std.proofs.Common.{◌≡◌, ◌∷◌, [], List, Contains, ap, sym, ◌∙◌, refl, arith, rules, subst, take, None, Some, true≢false}
use Rattle.indexmap.specs.IndexSet.{insert_all}
use Rattle.std.proofs.lemmas.Grind.{common_steps}
use Rattle.vc_object_map.proofs.KnownLemmas.{Beyond, Beyond-start, Beyond-step, Beyond-absent, Beyond-closed, Beyond-met, grown-inserted, rooted-start, take-inserted}
use Rattle.vc_object_map.proofs.WalkLemmas.{Contains-insert_all_old}
use Rattle.vc_object.proofs.IdLemmas.{id_eq-same}
use Rattle.vc_object.proofs.ObjectMaps.{parents_in-none}
use Rattle.vc_object.specs.ObjectId.{id_eq}
use Rattle.vc_object.specs.ObjectMap.{parents_in}
use Rattle.vc_object.specs.declared.id.ObjectId.{ObjectId}
use Rattle.vc_object_map.specs.Parents.{AreParents, IsOther}
use Rattle.vc_history.proofs.known.read_beyond.Goals as goal

pub loop-next-init : goal.loop-next-init
loop-next-init g c =
    let before = c.args.known.now.keys in
    let root = c.args.root.now in
    let parents = parents_in (g.C.Objects.objects (g.C.Objects.state_of c.args.commits.now)) in
    let added : c.add_names.new.set.keys ≡ insert_all id_eq before (root ∷ []) = c.in_ok-add_names.ensures.added in
    record {
      kept = refl;
      wear = search rules;
      grown = grown-inserted id_eq before before (root ∷ []) c.add_names.new.set.keys ([], grind (arith, common_steps)) added;
      rooted = rooted-start parents before root id_eq id_eq-same c.add_names.new.set.keys added;
      behind = omega (arith, c.len-next.ensures.len);
      walks = λ honest. subst (Beyond parents before root c.add_names.new.set.keys) (sym c.len-next.ensures.len) (Beyond-start parents before root id_eq id_eq-same c.add_names.new.set.keys added);
    }

pub loop-next-preserved : goal.loop-next-preserved
loop-next-preserved g c =
    let before = c.loop-next.invariant in
    let first = c.args.known.now.keys in
    let root = c.args.root.now in
    let ys : List ObjectId = c.in-Of.parents.items in
    let seen = c.loop-next.known.keys in
    let now = c.add_names-in-Of.new.set.keys in
    let id = c.index.result.now in
    let objects = g.C.Objects.objects (g.C.Objects.state_of c.args.commits.now) in
    let added : now ≡ insert_all id_eq seen ys = c.in_ok-add_names-in-Of.ensures.added ∙ ap (insert_all id_eq seen) c.deref.ensures.value in
    let call = c.in_ok-found.ensures in
    record {
      kept = call.kept ∙ before.kept;
      wear = search rules;
      grown = grown-inserted id_eq first seen ys now before.grown added;
      rooted = subst (λ l. Contains l root) (sym added) (Contains-insert_all_old id_eq seen ys root before.rooted);
      behind = omega (arith, before.behind);
      walks = λ honest.
          let answer = subst (λ found. AreParents objects id found) (c.in-Some.is ∙ ap Some c.in-Of.is) (rw before.kept at (call.answer honest)) in
          Beyond-step (parents_in objects) first root id_eq id_eq-same seen now ys c.loop-next.next id (before.walks honest) before.behind c.index.ensures answer added;
    }

pub returns-in_default-clause-history : goal.returns-in_default-clause-history
returns-in_default-clause-history g c honest whole =
    let before = c.loop-next.invariant in
    let objects = g.C.Objects.objects (g.C.Objects.state_of c.args.commits.now) in
    let id = c.index.result.now in
    let absent : objects id ≡ None = subst (λ found. AreParents objects id found) c.in_default.is (rw before.kept at (c.in_ok-found.ensures.answer honest)) in (
      λ yes. absurd (true≢false (sym yes)),
      λ all. absurd (Beyond-absent (parents_in objects) c.args.known.now.keys c.args.root.now c.loop-next.known.keys c.loop-next.next id (before.walks honest) before.behind c.index.ensures (parents_in-none objects id absent) all),
    )

pub returns-in-NotCommit-clause-history : goal.returns-in-NotCommit-clause-history
returns-in-NotCommit-clause-history g c honest whole =
    let before = c.loop-next.invariant in
    let objects = g.C.Objects.objects (g.C.Objects.state_of c.args.commits.now) in
    let id = c.index.result.now in
    let other : IsOther objects id = subst (λ found. AreParents objects id found) (c.in-Some.is ∙ ap Some c.in-NotCommit.is) (rw before.kept at (c.in_ok-found.ensures.answer honest)) in (
      λ yes. absurd (true≢false (sym yes)),
      λ all. absurd (Beyond-absent (parents_in objects) c.args.known.now.keys c.args.root.now c.loop-next.known.keys c.loop-next.next id (before.walks honest) before.behind c.index.ensures other.1 all),
    )

pub returns-in_err-add_names-in-Of-clause-front : goal.returns-in_err-add_names-in-Of-clause-front
returns-in_err-add_names-in-Of-clause-front g c =
    let some = c.in_err-add_names-in-Of.ensures.err in
    take-inserted id_eq c.args.known.now.keys c.loop-next.known.keys (take some.0 c.deref.result.now) c.add_names-in-Of.new.set.keys c.loop-next.invariant.grown some.1

pub returns-clause-history : goal.returns-clause-history
returns-clause-history g c honest whole =
    let before = c.loop-next.invariant in
    let parents = parents_in (g.C.Objects.objects (g.C.Objects.state_of c.args.commits.now)) in
    let closed = Beyond-closed parents c.args.known.now.keys c.args.root.now c.loop-next.known.keys before.grown.0 c.loop-next.next before.grown.1 (before.walks honest) (omega (arith, c.len.ensures.len, c.loop-next-test.false)) whole in
    (λ yes y r. closed y (record { root = c.args.root.now; is_root = before.rooted; reaches = r }), λ all. refl)

pub returns-clause-known : goal.returns-clause-known
returns-clause-known g c honest answered whole =
    let before = c.loop-next.invariant in
    let parents = parents_in (g.C.Objects.objects (g.C.Objects.state_of c.args.commits.now)) in
    Beyond-closed parents c.args.known.now.keys c.args.root.now c.loop-next.known.keys before.grown.0 c.loop-next.next before.grown.1 (before.walks honest) (omega (arith, c.len.ensures.len, c.loop-next-test.false)) whole

pub returns-clause-met : goal.returns-clause-met
returns-clause-met g c honest answered =
    let before = c.loop-next.invariant in
    let parents = parents_in (g.C.Objects.objects (g.C.Objects.state_of c.args.commits.now)) in
    Beyond-met parents c.args.known.now.keys c.args.root.now c.loop-next.known.keys before.grown.0 c.loop-next.next before.grown.1 (before.walks honest) (omega (arith, c.len.ensures.len, c.loop-next-test.false)) before.rooted
