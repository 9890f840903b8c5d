use Rattle.std.proofs.Common.{◌≡◌, ap, ◌∙◌, refl, rules, arith}
use Rattle.std.proofs.lemmas.Grind.{common_steps}
use Rattle.indexmap.specs.IndexSet.{insert_all}
use Rattle.vc_object.specs.ObjectId.{id_eq}
use Rattle.vc_object.specs.ObjectMap.{links_in}
use Rattle.vc_object_map.proofs.FaultLemmas.{IsMet-from_refused}
use Rattle.vc_object_map.proofs.WalkLemmas.{Contains-from_slice_get}
use Rattle.vc_object_map.specs.Graph.{ReachedFrom}
use Rattle.vc_known.proofs.CommonLemmas.{reached-start, reached-step}
use Rattle.vc_known.proofs.known.Known.ancestors_above.Goals as goal

pub loop-next-init : goal.loop-next-init
loop-next-init g c = record {
  kept = refl;
  wear = search rules;
  reached = λ honest. reached-start (g.C.Objects.objects (g.C.Objects.state_of c.args.commits.now)) c.args.roots.now c.new-met.result.keys c.add_names.new.set.keys c.new-met.ensures.empty c.in_ok-add_names.ensures.added;
}

pub loop-next-preserved : goal.loop-next-preserved
loop-next-preserved g c =
    let objects = g.C.Objects.objects (g.C.Objects.state_of c.args.commits.now) in
    let before = c.loop-next.invariant in
    let call = c.in_ok-parents.ensures in
    let seen = c.loop-next.met.keys in
    let now = c.add_names-in-loop-next.new.set.keys in
    let ids = c.in_ok-parents.parents.items in
    let id = c.index.result.now in
    let added : now ≡ insert_all id_eq seen ids = c.in_ok-add_names-2.ensures.added ∙ ap (insert_all id_eq seen) c.deref.ensures.value in
    record {
      kept = call.kept ∙ before.kept;
      wear = search rules;
      reached = λ honest. reached-step objects c.args.roots.now seen now ids id (Contains-from_slice_get seen c.loop-next.next id c.index.ensures) added (rw before.kept at (call.parents honest)) (before.reached honest);
    }

pub returns-in_err-parents-clause-refused : goal.returns-in_err-parents-clause-refused
returns-in_err-parents-clause-refused g c =
    let objects = g.C.Objects.objects (g.C.Objects.state_of c.args.commits.now) in
    let damaged = g.C.Objects.damaged (g.C.Objects.state_of c.args.commits.now) in
    let before = c.loop-next.invariant in
    let id = c.index.result.now in
    let refused = rw before.kept at c.in_err-parents.ensures.refused in
    let told = λ (honest : g.C.Objects.is_honest). IsMet-from_refused (ReachedFrom (links_in objects) c.args.roots.now) damaged g.C.Objects.is_honest id _ refused
    (before.reached honest id (Contains-from_slice_get c.loop-next.met.keys c.loop-next.next id c.index.ensures)) honest in
    grind (arith, common_steps, told)
