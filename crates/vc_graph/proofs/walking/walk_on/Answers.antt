use Rattle.std.proofs.Common.{◌≡◌, [], ◌++◌, ap, sym, ◌∙◌, refl, map-id, Ok, Err, None, Some, Result, append_assoc, append-nil, arith, rules, subst}
use Rattle.indexmap.specs.IndexSet.{insert_all}
use Rattle.std.proofs.lemmas.Iterator.Adapters.{YieldsList-from_vec, fact_from_extend}
use Rattle.std.specs.Prelude.{unwrap_or, IfErr}
use Rattle.std.specs.Option.{option_map}
use Rattle.std.specs.declared.alloc.AllocError.{AllocError}
use Rattle.vc_object_map.proofs.FaultLemmas.{IsMet-from_refused}
use Rattle.vc_object_map.proofs.WalkLemmas.{Contains-from_slice_get, insert_all-prefix}
use Rattle.vc_object_map.specs.Graph.{ReachedFrom}
use Rattle.vc_object_map.specs.StoreFault.{IsMetFrom}
use Rattle.vc_graph.proofs.WalkOnLemmas.{GoesOn-start, GoesOn-step, GoesOn-end}
use Rattle.vc_graph.proofs.walking.walk_on.Goals as goal
use Rattle.vc_object.proofs.IdLemmas.{id_eq-same}
use Rattle.vc_object.specs.ObjectMap.{links_in}
use Rattle.vc_object.specs.ObjectId.{id_eq}

pub loop-next-init : goal.loop-next-init
loop-next-init g c = record {
  kept = refl;
  wear = search rules;
  grown = ([], sym (append-nil c.args.met.now.keys));
  onward = omega arith;
  goes = λ honest. GoesOn-start (links_in (g.O.Objects.objects (g.O.Objects.state_of c.args.objects.now))) c.args.met.now.keys c.args.place;
}

pub loop-next-preserved : goal.loop-next-preserved
loop-next-preserved g c =
    let before = c.loop-next.invariant in
    let call = c.in_ok-links.ensures in
    let added : c.extend.new.self.keys ≡ insert_all id_eq c.loop-next.met.keys c.in-Some.links.items =
    fact_from_extend (λ y. y) (let r : Result (Unit {0}) AllocError = Ok tt in r) c.in_ok-extend.ensures.ran (λ it b. YieldsList-from_vec {s = it} _ b.0 (b.1 ∙ c.in-Some.links.ok.0))
    (λ xs e h. h.0 ∙ ap (insert_all id_eq c.loop-next.met.keys) (sym (map-id xs) ∙ e)) in
    let prefix = insert_all-prefix id_eq c.loop-next.met.keys c.in-Some.links.items in
    record {
      kept = call.kept ∙ before.kept;
      wear = search rules;
      grown = (before.grown.0 ++ prefix.0, added ∙ prefix.1 ∙ ap (λ l. l ++ prefix.0) before.grown.1 ∙ append_assoc c.args.met.now.keys before.grown.0 prefix.0);
      onward = omega (arith, before.onward);
      goes = λ honest. GoesOn-step _ id_eq id_eq-same c.args.met.now.keys c.loop-next.met.keys c.extend.new.self.keys c.in-Some.links.items c.args.place c.loop-next.next c.index.result.now
          (before.goes honest) c.index.ensures (ap (λ state. links_in (g.O.Objects.objects state) c.index.result.now) (sym before.kept) ∙ sym (call.answer honest) ∙ ap (option_map (λ v. v.items)) c.in-Some.is) added;
    }

pub returns-in_err-links-clause-refused : goal.returns-in_err-links-clause-refused
returns-in_err-links-clause-refused g c =
    let before = c.loop-next.invariant in
    let objects = g.O.Objects.objects (g.O.Objects.state_of c.args.objects.now) in
    let damaged = g.O.Objects.damaged (g.O.Objects.state_of c.args.objects.now) in
    let id = c.index.result.now in
    let refused = rw before.kept at c.in_err-links.ensures.refused in
    let e = c.in_err-links.field-0.0 in
    let told : g.O.Objects.is_honest → IsMetFrom objects damaged c.args.met.now.keys e = λ honest.
    IsMet-from_refused (ReachedFrom (links_in objects) c.args.met.now.keys) damaged g.O.Objects.is_honest id _ refused ((before.goes honest).reached id (Contains-from_slice_get _ _ _ c.index.ensures)) honest in
    let is : c.from_residual.result ≡ Err e = search rules in
    subst (λ r. IfErr r (λ e. g.O.Objects.is_honest → IsMetFrom objects damaged c.args.met.now.keys e)) (sym is) told

pub returns-in_default-clause-went : goal.returns-in_default-clause-went
returns-in_default-clause-went g c honest =
    let before = c.loop-next.invariant in
    let links = links_in (g.O.Objects.objects (g.O.Objects.state_of c.args.objects.now)) in
    let id = c.index.result.now in
    let none : links id ≡ None = ap (λ state. links_in (g.O.Objects.objects state) id) (sym before.kept) ∙ sym (c.in_ok-links.ensures.answer honest) ∙ ap (option_map (λ v. v.items)) c.in_default.is in (
      before.goes honest,
      λ x at.
          let same : Some id ≡ Some x = sym c.index.ensures ∙ at in
          let is : id ≡ x = ap (λ o. unwrap_or o x) same in
          subst (λ y. links y ≡ None) is none,
    )

pub returns-clause-went : goal.returns-clause-went
returns-clause-went g c honest = GoesOn-end _ _ c.loop-next.met.keys c.args.place c.loop-next.next (c.loop-next.invariant.goes honest) (omega (arith, c.len.ensures.len, c.loop-next-test.false))
