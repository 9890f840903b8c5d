use Rattle.std.proofs.Common.{◌≡◌, ap, sym, ◌∙◌, refl, Ok, Result, rules, arith}
use Rattle.indexmap.specs.IndexSet.{insert_all}
use Rattle.std.proofs.lemmas.Iterator.Adapters.{fact_from_extend}
use Rattle.std.proofs.lemmas.Iterator.{YieldsList-from_slice}
use Rattle.std.proofs.lemmas.Grind.{common_steps}
use Rattle.std.specs.declared.alloc.AllocError.{AllocError}
use Rattle.vc_object_map.proofs.FaultLemmas.{IsMet-more}
use Rattle.vc_object_map.specs.Graph.{ReachedFrom}
use Rattle.vc_object_map.specs.StoreFault.{IsMetFrom}
use Rattle.vc_graph.proofs.WalkOnLemmas.{links_or_none, Extends-or_none, ReachedFrom-on, ReachedFrom-from_or_none, Passes-start, Passes-on, Passes-over, Passes-end, Present-objects}
use Rattle.vc_graph.proofs.presence.present.Goals as goal
use Rattle.vc_object.proofs.IdLemmas.{id_eq-same}
use Rattle.vc_object.specs.ObjectMap.{links_in}
use Rattle.vc_object.specs.ObjectId.{id_eq}

pub loop-absent-init : goal.loop-absent-init
loop-absent-init g c =
    let none = c.new-met.result.keys in
    let added : c.extend.new.self.keys ≡ insert_all id_eq none c.args.roots.now =
    fact_from_extend (λ y. y.now) (let r : Result (Unit {0}) AllocError = Ok tt in r) c.in_ok-extend.ensures.ran (λ it b. YieldsList-from_slice _ b.0)
    (λ xs e h. h.0 ∙ ap (insert_all id_eq none) e) in
    record {
      kept = refl;
      wear = search rules;
      passes = λ honest. Passes-start _ c.args.roots.now id_eq id_eq-same c.new-absent.result.keys c.extend.new.self.keys c.new-absent.ensures.empty
          (added ∙ ap (λ l. insert_all id_eq l c.args.roots.now) (c.new-met.ensures.empty ∙ sym c.new-absent.ensures.empty));
    }

pub loop-absent-preserved : goal.loop-absent-preserved
loop-absent-preserved g c =
    let before = c.loop-absent.invariant in
    let links = links_in (g.O.Objects.objects (g.O.Objects.state_of c.args.objects.now)) in
    let roots = c.args.roots.now in
    let now = c.walk_on.new.met.keys in
    let grown = c.in_ok-place.ensures.grown in
    record {
      kept = c.in_ok-place.ensures.kept ∙ before.kept;
      wear = search rules;
      passes = λ honest.
          let went = rw (before.kept, c.in-Some.is) at (c.in_ok-place.ensures.went honest) in
          let on = Passes-on links roots c.loop-absent.met.keys now c.loop-absent.absent.keys grown.0 c.loop-absent.next c.in-Some.place (before.passes honest) grown.1 went.0 in
          Passes-over links roots id_eq id_eq-same now c.loop-absent.absent.keys c.insert.new.self.keys c.in-Some.place c.index.result.now on c.index.ensures (went.1 c.index.result.now c.index.ensures) (search rules);
    }

pub returns-in_err-place-clause-refused : goal.returns-in_err-place-clause-refused
returns-in_err-place-clause-refused g c =
    let before = c.loop-absent.invariant in
    let objects = g.O.Objects.objects (g.O.Objects.state_of c.args.objects.now) in
    let links = links_in objects in
    let damaged = g.O.Objects.damaged (g.O.Objects.state_of c.args.objects.now) in
    let refused = rw before.kept at c.in_err-place.ensures.refused in
    let met = c.loop-absent.met.keys in
    let told : g.O.Objects.is_honest → IsMetFrom objects damaged c.args.roots.now c.in_err-place.field-0.0 = λ honest.
    IsMet-more (ReachedFrom links met) (ReachedFrom links c.args.roots.now) damaged
    (λ y h. ReachedFrom-from_or_none links c.args.roots.now y (ReachedFrom-on links (links_or_none links) (Extends-or_none links) c.args.roots.now met c.loop-absent.next (before.passes honest).walks y h)) _ (refused honest) in
    grind (arith, common_steps, told)

pub returns-clause-reached : goal.returns-clause-reached
returns-clause-reached g c honest id =
    let before = c.loop-absent.invariant in
    let objects = g.O.Objects.objects (g.O.Objects.state_of c.args.objects.now) in
    let links = links_in objects in
    let roots = c.args.roots.now in
    let now = c.walk_on.new.met.keys in
    let grown = c.in_ok-place.ensures.grown in
    let went = rw (before.kept, c.in_default.is) at (c.in_ok-place.ensures.went honest) in
    let on = Passes-on links roots c.loop-absent.met.keys now c.loop-absent.absent.keys grown.0 c.loop-absent.next _ (before.passes honest) grown.1 went in
    let told = c.in_ok-sorted_difference.ensures.difference id in
    let is = Present-objects objects roots id (Passes-end links roots now c.loop-absent.absent.keys on id) in
    (λ h. is.0 (told.0 h), λ h. told.1 (is.1 h))
