use Rattle.std.proofs.Common.{◌≡◌, ◌≤◌, [], ◌∷◌, length, ap, ◌∙◌, refl, arith, rules}
use Rattle.indexmap.specs.IndexSet.{insert_all}
use Rattle.std.proofs.lemmas.Option.{get_or_from_slice_get, slice_get_within}
use Rattle.vc_pack.proofs.BeyondLemmas.{IsMetDownTo-walked, ReachedFrom-beyond, Walks-first, closed_beyond, met_beyond}
use Rattle.vc_pack.proofs.ReadingLemmas.{HasRead-exact, HasRead-sorted}
use Rattle.vc_pack.proofs.SentLemmas.{ReachedFrom-onward, Keeps-start, Keeps-step, Keeps-end}
use Rattle.vc_pack.specs.Sent.{links_beyond}
use Rattle.vc_known.specs.Reach.{has_in}
use Rattle.vc_graph.proofs.FaultLemmas.{IsTold-more}
use Rattle.vc_object_map.proofs.WalkLemmas.{Walks-step, Contains-from_slice_get, insert_all-prefix}
use Rattle.vc_object.proofs.IdLemmas.{id_eq-same}
use Rattle.vc_object.specs.ObjectId.{id_eq}
use Rattle.vc_object.specs.ObjectMap.{links_in}
use Rattle.vc_pkt.specs.StreamObjectView.{objects_of}
use Rattle.vc_object_map.specs.Store.{objects, IsDamaged}
use Rattle.vc_pack.proofs.reading.sent_beyond.Goals as goal

pub loop-next-init : goal.loop-next-init
loop-next-init g c =
    let content = g.F.Files.content c.args.files.now in
    let known = has_in c.args.reach.now in
    let met = c.add_names.new.set.keys in
    record {
      same = refl;
      wear = search rules;
      walks = λ honest. Walks-first (links_beyond (links_in (objects content)) known) c.args.wants.now c.new-met.result.keys met c.new-met.ensures.empty c.in_ok-add_names.ensures.added;
      keeps = λ honest. Keeps-start content known met (objects_of c.new-sent.result.by_name.entries) c.new-sent.ensures;
    }

pub loop-next-preserved : goal.loop-next-preserved
loop-next-preserved g c =
    let content = g.F.Files.content c.args.files.now in
    let before = c.loop-next.invariant in
    let call = c.in_ok-ids.ensures in
    let known = has_in c.args.reach.now in
    let seen = c.loop-next.met.keys in
    let now = c.add_names-in-loop-next.new.set.keys in
    let ids = c.in_ok-ids.ids.items in
    let id = c.index.result.now in
    let next = c.loop-next.next in
    let added : now ≡ insert_all id_eq seen ids = c.in_ok-add_names-2.ensures.added ∙ ap (insert_all id_eq seen) c.deref.ensures.value in
    let prefix = insert_all-prefix id_eq seen ids in
    record {
      same = call.same ∙ before.same;
      wear = search rules;
      walks = λ honest. Walks-step (links_beyond (links_in (objects content)) known) c.args.wants.now id_eq id_eq-same seen now ids next id (before.walks honest) c.index.ensures (rw before.same at (call.links honest)) added;
      keeps = λ honest. Keeps-step content known seen now prefix.0 next id (slice_get_within seen next id c.index.ensures) (get_or_from_slice_get seen next id id c.index.ensures) (added ∙ prefix.1)
          (objects_of c.loop-next.sent.by_name.entries) (objects_of c.send_unless_reached.new.sent.by_name.entries) (before.keeps honest) (rw before.same at (call.sent honest));
    }

pub returns-in_err-ids-clause-refused : goal.returns-in_err-ids-clause-refused
returns-in_err-ids-clause-refused g c honest =
    let content = g.F.Files.content c.args.files.now in
    let before = c.loop-next.invariant in
    let roots = c.args.wants.now in
    let id = c.index.result.now in
    let links = links_in (objects content) in
    let refused = rw before.same at (c.in_err-ids.ensures.refused honest) in
    let at = ReachedFrom-beyond links (has_in c.args.reach.now) roots id ((before.walks honest).reached id (Contains-from_slice_get c.loop-next.met.keys c.loop-next.next id c.index.ensures)) in
    let told = IsTold-more (objects content) (IsDamaged content) (id ∷ []) roots (ReachedFrom-onward links roots id at) c.in_err-ids.field-0.0 refused in
    search (rules, told)

pub returns-clause-sent : goal.returns-clause-sent
returns-clause-sent g c honest before_roots is id o =
    let content = g.F.Files.content c.args.files.now in
    let links = links_in (objects content) in
    let before = c.loop-next.invariant in
    let known = has_in c.args.reach.now in
    let met = c.loop-next.met.keys in
    let next = c.loop-next.next in
    let end : length met ≤ next = omega (arith, c.len.ensures.len, c.loop-next-test.false) in
    let keeps = before.keeps honest in
    let sent = objects_of c.loop-next.sent.by_name.entries in
    let kept = Keeps-end content known met next sent keeps end id in
    let down = IsMetDownTo-walked links known c.args.wants.now met next (before.walks honest) end in
    let beyond = met_beyond links known before_roots is.exactly is.there c.args.wants.now met down id in
    let read = HasRead-exact content keeps.names sent keeps.read id o in (
      λ h. let one = read.0 h in (beyond.0 (kept.0 one.0), one.1),
      λ h. read.1 (kept.1 (beyond.1 h.0), h.1),
    )

pub returns-clause-sorted : goal.returns-clause-sorted
returns-clause-sorted g c honest =
    let keeps = c.loop-next.invariant.keeps honest in
    HasRead-sorted (g.F.Files.content c.args.files.now) keeps.names (objects_of c.loop-next.sent.by_name.entries) keeps.read

pub returns-clause-closed : goal.returns-clause-closed
returns-clause-closed g c honest before_roots is =
    let links = links_in (objects (g.F.Files.content c.args.files.now)) in
    let known = has_in c.args.reach.now in
    let met = c.loop-next.met.keys in
    let end : length met ≤ c.loop-next.next = omega (arith, c.len.ensures.len, c.loop-next-test.false) in
    let down = IsMetDownTo-walked links known c.args.wants.now met c.loop-next.next (c.loop-next.invariant.walks honest) end in
    closed_beyond links known before_roots is.exactly is.there c.args.wants.now met down
