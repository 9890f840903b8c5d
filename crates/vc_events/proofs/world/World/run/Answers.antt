use Rattle.std.proofs.Common.{◌≡◌, ◌+◌, ℕ, List, [], rules, refl, sym, ap, ◌∙◌, subst, take, length, vec_len, get_or, arith}
use Rattle.std.proofs.lemmas.List.{length_push}
use Rattle.vc_events.specs.declared.events.Event.{Event}
use Rattle.vc_events.specs.declared.answers.Answer.{Answer}
use Rattle.vc_events.specs.Events.{IsInWorld}
use Rattle.vc_events.specs.World.{IsSame}
use Rattle.vc_events.specs.Running.{Lengthens, GoesOn}
use Rattle.vc_events.proofs.RunLemmas.{lengthens_none, goes_on, runs_safely, same_lengthens, take_whole}
use Rattle.vc_events.proofs.world.World.run.Goals as goal

pub more-requires : goal.more-requires
more-requires g c =
    subst (λ (n : ℕ). IsInWorld n c.event-item.result) (sym c.loop-event.invariant.clones)
    (subst (λ (e : Event). IsInWorld (vec_len c.args.self.now.clones) e) (sym c.event-item.is) (c.requires c.loop-event.event-index c.event-item.result c.loop-event-test.true))

pub loop-event-init : goal.loop-event-init
loop-event-init g c =
    let hs = g.S.SharedCalls.seen in let hc = g.C.CloneCalls.seen in
    record {
      run = λ shared clone. subst (λ (said : List Answer). Lengthens hs hc c.args.self.now [] said c.args.self.now) (sym c.new-answers.ensures.items) (lengthens_none hs hc c.args.self.now);
      count = λ shared clone. ap length c.new-answers.ensures.items;
      clones = refl;
    }

pub loop-event-preserved : goal.loop-event-preserved
loop-event-preserved g c =
    let hs = g.S.SharedCalls.seen in let hc = g.C.CloneCalls.seen in
    let on : g.S.SharedCalls.honest → g.C.CloneCalls.honest → GoesOn hs hc c.loop-event.answers.items c.more.new.answers.items c.loop-event.self c.event-item.result c.more.new.self = search rules in
    let here : g.S.SharedCalls.honest → g.C.CloneCalls.honest → GoesOn hs hc c.loop-event.answers.items c.more.new.answers.items c.loop-event.self (get_or c.args.events.now c.loop-event.event-index c.event-item.result) c.more.new.self
    = λ shared clone. subst (λ (e : Event). GoesOn hs hc c.loop-event.answers.items c.more.new.answers.items c.loop-event.self e c.more.new.self) c.event-item.is (on shared clone) in
    record {
      run = λ shared clone. goes_on hs hc c.args.self.now c.loop-event.self c.more.new.self c.args.events.now c.loop-event.answers.items c.more.new.answers.items c.loop-event.event-index c.event-item.result c.loop-event-test.true
          (c.loop-event.invariant.run shared clone) (here shared clone);
      count = λ shared clone. ap length (on shared clone).said ∙ (length_push c.loop-event.answers.items (on shared clone).answer ∙ ap (λ n. n + 1) (c.loop-event.invariant.count shared clone));
      clones = c.more.ensures.clones ∙ c.loop-event.invariant.clones;
    }

pub returns-then-is_err-clause-run : goal.returns-then-is_err-clause-run
returns-then-is_err-clause-run g c shared clone =
    let hs = g.S.SharedCalls.seen in let hc = g.C.CloneCalls.seen in
    let e : IsSame c.loop-event.self c.more.new.self × (c.more.new.answers.items ≡ c.loop-event.answers.items) = search rules in
    let n : vec_len c.more.new.answers ≡ length c.more.new.answers.items = search rules in
    let here = same_lengthens hs hc c.args.self.now c.loop-event.self c.more.new.self (take c.loop-event.event-index c.args.events.now) c.loop-event.answers.items e.0 (c.loop-event.invariant.run shared clone) in
    subst (λ (n : ℕ). Lengthens hs hc c.args.self.now (take n c.args.events.now) c.more.new.answers.items c.more.new.self) (sym (n ∙ (ap length e.1 ∙ c.loop-event.invariant.count shared clone)))
    (subst (λ (said : List Answer). Lengthens hs hc c.args.self.now (take c.loop-event.event-index c.args.events.now) said c.more.new.self) (sym e.1) here)

pub returns-then-is_err-clause-safe : goal.returns-then-is_err-clause-safe
returns-then-is_err-clause-safe g c shared clone =
    runs_safely g.S.SharedCalls.seen g.C.CloneCalls.seen _ _ _ _ (returns-then-is_err-clause-run g c shared clone)

pub returns-clause-run : goal.returns-clause-run
returns-clause-run g c shared clone =
    let hs = g.S.SharedCalls.seen in let hc = g.C.CloneCalls.seen in
    let end : c.loop-event.event-index ≡ length c.args.events.now = omega (arith, c.loop-event-test.false, c.loop-event.auto.event-index-end) in
    subst (λ (es : List Event). Lengthens hs hc c.args.self.now es c.loop-event.answers.items c.loop-event.self) (ap (λ n. take n c.args.events.now) end ∙ take_whole c.args.events.now) (c.loop-event.invariant.run shared clone)

pub returns-clause-safe : goal.returns-clause-safe
returns-clause-safe g c shared clone =
    runs_safely g.S.SharedCalls.seen g.C.CloneCalls.seen _ _ _ _ (returns-clause-run g c shared clone)
