use Rattle.std.proofs.Common.{◌≡◌, ◌++◌, None, ap, sym, ◌∙◌, refl, arith, rules, subst, take, length}
use Rattle.indexmap.specs.IndexSet.{insert_all}
use Rattle.std.proofs.lemmas.Grind.{common_steps}
use Rattle.vc_graph.specs.GraphFault.{IsTold}
use Rattle.vc_graph.specs.declared.fault.GraphFault.TheVariants.{Store}
use Rattle.vc_object.proofs.IdLemmas.{id_eq-same}
use Rattle.vc_object.proofs.ObjectMaps.{links_in-none}
use Rattle.vc_object.specs.ObjectId.{id_eq}
use Rattle.vc_object.specs.ObjectMap.{links_in}
use Rattle.vc_object_map.proofs.FaultLemmas.{IsMet-from_refused}
use Rattle.vc_object_map.proofs.KnownLemmas.{grown-inserted}
use Rattle.vc_object_map.proofs.WalkLemmas.{Contains-from_slice_get, Walks, Walks-start, Walks-step, insert_all-prefix, walked, walked-followed}
use Rattle.vc_object_map.specs.Graph.{ReachedFrom}
use Rattle.std.proofs.Math.Seq.{take-append_seam}
use Rattle.vc_known.proofs.AddedLemmas.{ReachedFrom-down}
use Rattle.vc_known.proofs.KindLemmas.{IsOfKind-from_Shows, kinds-one_more, links-from_Shows, read-end, read-one_more, read-start}
use Rattle.vc_known.proofs.LayerLemmas.{links_above-some}
use Rattle.vc_known.specs.Known.{layer_in}
use Rattle.vc_known.specs.Layers.{above}
use Rattle.vc_known.specs.Seen.{IsSeen, Shows}
use Rattle.vc_known.specs.Walked.{kind_met, links_down_to}
use Rattle.vc_known.proofs.walk.walk_down.Goals as goal

pub loop-next-init : goal.loop-next-init
loop-next-init g c =
    let objects = g.K.Objects.objects (g.K.Objects.state_of c.args.objects.now) in
    let layers = layer_in c.args.known.now in
    let before = c.args.walked.now.met.keys in
    let roots = above layers c.args.count c.args.roots.now in
    let seen = c.add_above.new.met.keys in
    let added : seen ≡ insert_all id_eq before roots = c.in_ok-add_above.ensures in
    let prefix = insert_all-prefix id_eq before roots in
    let links = links_down_to objects c.args.known.now c.args.count in
    record {
      kept = refl;
      wear = search rules;
      grown = (prefix.0, added ∙ prefix.1);
      walks = λ honest. subst (Walks links (before ++ roots) seen) (sym c.len-next.ensures.len) (Walks-start links before roots id_eq id_eq-same seen (c.requires honest).followed added);
      kinds = λ honest. (c.requires honest).kinds;
      read = λ honest k d below. read-start (kind_met c.args.walked.now) before seen prefix.0 (added ∙ prefix.1) (c.requires honest).read k d (omega (arith, below, c.len-next.ensures.len));
    }

pub loop-next-preserved : goal.loop-next-preserved
loop-next-preserved g c =
    let objects = g.K.Objects.objects (g.K.Objects.state_of c.args.objects.now) in
    let known = c.args.known.now in
    let layers = layer_in known in
    let before = c.loop-next.invariant in
    let call = c.in_ok-seen.ensures in
    let id = c.index.result.now in
    let found = c.in-Some.seen in
    let shows : g.K.Objects.is_honest → Shows objects id found = λ honest.
    subst (λ o. IsSeen objects id o) c.in-Some.is (subst (λ state. IsSeen (g.K.Objects.objects state) id c.in_ok-seen.field-0) before.kept (call.answer honest)) in
    let first = c.args.walked.now.met.keys in
    let seen = c.loop-next.walked.met.keys in
    let now = c.add_above-in-loop-next.new.met.keys in
    let ys = above layers c.args.count found.links.items in
    let added : now ≡ insert_all id_eq seen ys = c.in_ok-add_above-2.ensures ∙ ap (λ l. insert_all id_eq seen (above layers c.args.count l)) c.deref.ensures.value in
    let prefix = insert_all-prefix id_eq seen ys in
    let updates = c.in_ok-add_kind.ensures.0 in
    record {
      kept = call.kept ∙ before.kept;
      wear = search rules;
      grown = grown-inserted id_eq first seen ys now before.grown added;
      walks = λ honest. Walks-step (links_down_to objects known c.args.count) (first ++ above layers c.args.count c.args.roots.now) id_eq id_eq-same seen now ys c.loop-next.next id
          (before.walks honest) c.index.ensures (links_above-some (links_in objects) layers c.args.count id found.links.items (links-from_Shows objects id found (shows honest))) added;
      kinds = λ honest. kinds-one_more (kind_met c.loop-next.walked) _ id found.kind updates objects (IsOfKind-from_Shows objects id found (shows honest)) (before.kinds honest);
      read = λ honest. read-one_more (kind_met c.loop-next.walked) _ id found.kind updates seen now prefix.0 c.loop-next.next (added ∙ prefix.1) c.index.ensures (before.read honest);
    }

pub returns-in_err-seen-clause-refused : goal.returns-in_err-seen-clause-refused
returns-in_err-seen-clause-refused g c =
    let objects = g.K.Objects.objects (g.K.Objects.state_of c.args.objects.now) in
    let damaged = g.K.Objects.damaged (g.K.Objects.state_of c.args.objects.now) in
    let layers = layer_in c.args.known.now in
    let before = c.loop-next.invariant in
    let first = c.args.walked.now.met.keys in
    let roots = c.args.roots.now in
    let id = c.index.result.now in
    let refused = rw before.kept at c.in_err-seen.ensures.refused in
    let e = c.in_err-seen.field-0.0 in
    let told : g.K.Objects.is_honest → IsTold objects damaged (first ++ roots) (Store e) = λ honest.
    IsMet-from_refused (ReachedFrom (links_in objects) (first ++ roots)) damaged g.K.Objects.is_honest id e refused
    (ReachedFrom-down objects layers c.args.count first roots id ((before.walks honest).reached id (Contains-from_slice_get c.loop-next.walked.met.keys c.loop-next.next id c.index.ensures))) honest in
    grind (arith, common_steps, told)

pub returns-in_default-clause-refused : goal.returns-in_default-clause-refused
returns-in_default-clause-refused g c honest =
    let objects = g.K.Objects.objects (g.K.Objects.state_of c.args.objects.now) in
    let layers = layer_in c.args.known.now in
    let before = c.loop-next.invariant in
    let id = c.index.result.now in
    let none : objects id ≡ None =
    subst (λ o. IsSeen objects id o) c.in_default.is (subst (λ state. IsSeen (g.K.Objects.objects state) id c.in_ok-seen.field-0) before.kept (c.in_ok-seen.ensures.answer honest)) in (
      ReachedFrom-down objects layers c.args.count c.args.walked.now.met.keys c.args.roots.now id ((before.walks honest).reached id (Contains-from_slice_get c.loop-next.walked.met.keys c.loop-next.next id c.index.ensures)),
      links_in-none objects id none,
    )

pub returns-clause-reached : goal.returns-clause-reached
returns-clause-reached g c honest =
    let objects = g.K.Objects.objects (g.K.Objects.state_of c.args.objects.now) in
    walked (links_down_to objects c.args.known.now c.args.count) (c.args.walked.now.met.keys ++ above (layer_in c.args.known.now) c.args.count c.args.roots.now) c.loop-next.walked.met.keys c.loop-next.next
    (c.loop-next.invariant.walks honest) (omega (arith, c.len.ensures.len, c.loop-next-test.false))

pub returns-clause-whole : goal.returns-clause-whole
returns-clause-whole g c honest =
    let objects = g.K.Objects.objects (g.K.Objects.state_of c.args.objects.now) in
    let before = c.loop-next.invariant in
    let seen = c.loop-next.walked.met.keys in
    record {
      followed = walked-followed (links_down_to objects c.args.known.now c.args.count) (c.args.walked.now.met.keys ++ above (layer_in c.args.known.now) c.args.count c.args.roots.now) seen c.loop-next.next
          (before.walks honest) (omega (arith, c.len.ensures.len, c.loop-next-test.false));
      kinds = before.kinds honest;
      read = read-end (kind_met c.loop-next.walked) seen c.loop-next.next (omega (arith, c.len.ensures.len, c.loop-next-test.false)) (before.read honest);
    }

pub returns-clause-first : goal.returns-clause-first
returns-clause-first g c =
    let first = c.args.walked.now.met.keys in
    let grown = c.loop-next.invariant.grown in
    ap (take (length first)) grown.1 ∙ take-append_seam first grown.0
