use Rattle.std.proofs.Common.{◌++◌, ◌∷◌, [], ◌∙◌, rules, get_or, arith, refl}
use Rattle.std.proofs.lemmas.Option.{slice_get-get_or}
use Rattle.vc_object.specs.ObjectMap.{links_in}
use Rattle.vc_object.specs.declared.id.ObjectId.{ObjectId}
use Rattle.vc_graph.proofs.FaultLemmas.{IsTold-more}
use Rattle.vc_graph.proofs.IncompleteLemmas.{Covers-next, Covers-start, Covers-end, ReachedFrom-next, IsFirstIncomplete-at}
use Rattle.vc_graph.proofs.incomplete.first_incomplete.Goals as goal

pub loop-root-init : goal.loop-root-init
loop-root-init g c = record {
  kept = refl;
  wear = search rules;
  covers = λ honest. Covers-start (links_in (g.O.Objects.objects (g.O.Objects.state_of c.args.objects.now))) c.args.roots.now c.new-met.result.keys c.new-met.ensures.empty;
}

pub loop-root-preserved : goal.loop-root-preserved
loop-root-preserved g c =
    let before = c.loop-root.invariant in
    let links = links_in (g.O.Objects.objects (g.O.Objects.state_of c.args.objects.now)) in
    let roots = c.args.roots.now in
    let place = c.loop-root.root-index in
    let none : ObjectId = record { 0 = [] } in
    let root : ObjectId = get_or roots place none in
    record {
      kept = c.in-Ok.ensures.kept ∙ before.kept;
      wear = search rules;
      covers = λ honest. Covers-next links roots c.loop-root.met.keys place root (before.covers honest) (slice_get-get_or roots place none c.loop-root-test.true) c.walk.new.met.keys
          (rw before.kept at (c.in-Ok.ensures.followed honest)) (rw before.kept at (c.in-Ok.ensures.reached honest));
    }

pub returns-in-Err-Missing-clause-first : goal.returns-in-Err-Missing-clause-first
returns-in-Err-Missing-clause-first g c honest =
    let before = c.loop-root.invariant in
    let links = links_in (g.O.Objects.objects (g.O.Objects.state_of c.args.objects.now)) in
    let roots = c.args.roots.now in
    let place = c.loop-root.root-index in
    let none : ObjectId = record { 0 = [] } in
    let told = rw (before.kept, c.in-Err-Missing.field-0-is) at (c.in-Err-Missing.ensures.refused honest) in
    IsFirstIncomplete-at links roots c.loop-root.met.keys place (get_or roots place none) (before.covers honest) (slice_get-get_or roots place none c.loop-root-test.true) c.in-Err-Missing.field-0-0 told

pub returns-in-Err-Store-clause-refused : goal.returns-in-Err-Store-clause-refused
returns-in-Err-Store-clause-refused g c honest =
    let before = c.loop-root.invariant in
    let objects = g.O.Objects.objects (g.O.Objects.state_of c.args.objects.now) in
    let damaged = g.O.Objects.damaged (g.O.Objects.state_of c.args.objects.now) in
    let roots = c.args.roots.now in
    let place = c.loop-root.root-index in
    let none : ObjectId = record { 0 = [] } in
    let root : ObjectId = get_or roots place none in
    let told = rw before.kept at (c.in-Err-Store.ensures.refused honest) in
    let more = IsTold-more objects damaged (c.loop-root.met.keys ++ root ∷ []) roots
    (ReachedFrom-next (links_in objects) roots c.loop-root.met.keys place root (before.covers honest) (slice_get-get_or roots place none c.loop-root-test.true)) c.in-Err-Store.field-0 told in
    rw (← c.in-Err-Store.fault-is) at (rw c.in-Err-Store.field-0-is at more)

pub returns-clause-first : goal.returns-clause-first
returns-clause-first g c honest =
    let links = links_in (g.O.Objects.objects (g.O.Objects.state_of c.args.objects.now)) in
    Covers-end links c.args.roots.now c.loop-root.met.keys c.loop-root.root-index (c.loop-root.invariant.covers honest) (omega (arith, c.loop-root-test.false))
