use Rattle.std.proofs.Common.{◌∙◌, ◌∷◌, [], arith, get_or, refl, rules, subst}
use Rattle.std.proofs.Math.Seq.{take-length}
use Rattle.std.proofs.lemmas.List.{take_all}
use Rattle.vc_pack.proofs.JudgeLemmas.{closed_next, closed_none, front_then, reached_wants}
use Rattle.vc_object_map.proofs.FaultLemmas.{IsMet-more}
use Rattle.vc_object_map.specs.Graph.{IsClosedUnder, ReachedFrom}
use Rattle.vc_object_map.specs.StoreFault.{IsMet}
use Rattle.vc_object.specs.ObjectMap.{links_in}
use Rattle.vc_object.specs.declared.id.ObjectId.{ObjectId}
use Rattle.vc_pack.proofs.judge.names_reached.Goals as goal

pub loop-id-init : goal.loop-id-init
loop-id-init g c = record {
  kept = refl;
  wear = search rules;
  closed = λ honest whole. closed_none (links_in (g.O.Objects.objects (g.O.Objects.state_of c.args.objects.now))) c.args.wants.now;
  met = λ honest whole. whole;
  front = take-length c.args.known.keys;
}

pub loop-id-preserved : goal.loop-id-preserved
loop-id-preserved g c =
    let before = c.loop-id.invariant in
    let links = links_in (g.O.Objects.objects (g.O.Objects.state_of c.args.objects.now)) in
    let wants = c.args.wants.now in
    let none : ObjectId = record { 0 = [] } in
    record {
      kept = c.in_ok-is_complete_beyond.ensures.kept ∙ before.kept;
      wear = search rules;
      closed = λ honest whole.
          let complete = rw before.kept at (c.in_ok-is_complete_beyond.ensures.complete honest) in
          closed_next links wants c.loop-id.id-index none c.loop-id-test.true (before.closed honest whole) ((complete (before.met honest whole)).0 c.if-not-branch.false);
      met = λ honest whole. (rw before.kept at (c.in_ok-is_complete_beyond.ensures.known honest)) (before.met honest whole);
      front = front_then c.args.known.keys c.loop-id.met.keys c.is_complete_beyond.new.known.keys before.front c.in_ok-is_complete_beyond.ensures.grown.front;
    }

pub returns-in_err-is_complete_beyond-clause-refused : goal.returns-in_err-is_complete_beyond-clause-refused
returns-in_err-is_complete_beyond-clause-refused g c =
    let links = links_in (g.O.Objects.objects (g.O.Objects.state_of c.args.objects.now)) in
    let damaged = g.O.Objects.damaged (g.O.Objects.state_of c.args.objects.now) in
    let wants = c.args.wants.now in
    let none : ObjectId = record { 0 = [] } in
    let place = c.loop-id.id-index in
    let e = c.in_err-is_complete_beyond.field-0.0 in
    let told : g.O.Objects.is_honest → IsMet (ReachedFrom links wants) damaged e = λ honest.
    let met : IsMet (ReachedFrom links (get_or wants place none ∷ [])) damaged e = rw c.loop-id.invariant.kept at (c.in_err-is_complete_beyond.ensures.refused honest) in
    IsMet-more (ReachedFrom links (get_or wants place none ∷ [])) (ReachedFrom links wants) damaged (reached_wants links wants place none c.loop-id-test.true) e met
    in search (rules, told)

pub returns-in_err-first-clause-refused : goal.returns-in_err-first-clause-refused
returns-in_err-first-clause-refused g c =
    let links = links_in (g.O.Objects.objects (g.O.Objects.state_of c.args.objects.now)) in
    let damaged = g.O.Objects.damaged (g.O.Objects.state_of c.args.objects.now) in
    let e = c.in_err-first.field-0.0 in
    let told : g.O.Objects.is_honest → IsMet (ReachedFrom links c.args.wants.now) damaged e = λ honest. rw (c.in_ok-is_complete_beyond.ensures.kept, c.loop-id.invariant.kept) at (c.in_err-first.ensures.refused honest) in
    search (rules, told)

pub returns-in-Some-clause-first : goal.returns-in-Some-clause-first
returns-in-Some-clause-first g c honest = rw (c.in-Some.is, c.in_ok-is_complete_beyond.ensures.kept, c.loop-id.invariant.kept) at (c.in_ok-first.ensures.first honest)

pub returns-in-None-clause-complete : goal.returns-in-None-clause-complete
returns-in-None-clause-complete g c honest whole = rw (c.in-None.is, c.in_ok-is_complete_beyond.ensures.kept, c.loop-id.invariant.kept) at (c.in_ok-first.ensures.first honest)

pub returns-in-None-clause-met : goal.returns-in-None-clause-met
returns-in-None-clause-met g c honest whole = rw c.loop-id.invariant.kept at (c.in_ok-is_complete_beyond.ensures.known honest (rw (← c.loop-id.invariant.kept) at (c.loop-id.invariant.met honest whole)))

pub returns-clause-complete : goal.returns-clause-complete
returns-clause-complete g c honest whole =
    let wants = c.args.wants.now in
    subst (IsClosedUnder (links_in (g.O.Objects.objects (g.O.Objects.state_of c.args.objects.now)))) (take_all c.loop-id.id-index wants (omega (arith, c.loop-id-test.false))) (c.loop-id.invariant.closed honest whole)

pub returns-clause-met : goal.returns-clause-met
returns-clause-met g c honest whole = c.loop-id.invariant.met honest whole

pub returns-in-None-clause-front : goal.returns-in-None-clause-front
returns-in-None-clause-front g c = front_then c.args.known.keys c.loop-id.met.keys c.is_complete_beyond.new.known.keys c.loop-id.invariant.front c.in_ok-is_complete_beyond.ensures.grown.front
