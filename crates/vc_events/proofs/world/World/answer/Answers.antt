use Rattle.std.proofs.Common.{List, ℕ, sym, ap, ◌∙◌}
use Rattle.vc_model.specs.ExactWorld.WorldEvent.{Compares}
use Rattle.vc_events.specs.Events.{event_of, party_of}
use Rattle.vc_events.proofs.RunLemmas.{other_event}
use Rattle.vc_events.proofs.world.World.answer.Goals as goal

pub returns-in-Order-clause-steps : goal.returns-in-Order-clause-steps
returns-in-Order-clause-steps g c shared clone = other_event g.S.SharedCalls.seen g.C.CloneCalls.seen _ _ _ _ _ (ap event_of c.in-Order.is) (c.order.ensures.steps shared clone)

pub returns-in-Deliver-clause-steps : goal.returns-in-Deliver-clause-steps
returns-in-Deliver-clause-steps g c shared clone = other_event g.S.SharedCalls.seen g.C.CloneCalls.seen _ _ _ _ _ (ap event_of c.in-Deliver.is) (c.deliver.ensures.steps shared clone)

pub returns-in-Step-clause-steps : goal.returns-in-Step-clause-steps
returns-in-Step-clause-steps g c shared clone = other_event g.S.SharedCalls.seen g.C.CloneCalls.seen _ _ _ _ _ (ap event_of c.in-Step.is) (c.advance.ensures.steps shared clone)

pub returns-in-Compare-clause-steps : goal.returns-in-Compare-clause-steps
returns-in-Compare-clause-steps g c shared clone = other_event g.S.SharedCalls.seen g.C.CloneCalls.seen _ _ _ _ _
    (ap event_of c.in-Compare.is
    ∙ (ap (λ (b : List ℕ). Compares (party_of c.in-Compare.party) b c.in-Compare.second.items) (sym c.deref.ensures.value)
    ∙ ap (λ (b : List ℕ). Compares (party_of c.in-Compare.party) c.deref.result.now b) (sym c.deref-in-Compare.ensures.value)))
    (c.compare.ensures.steps shared clone)

pub returns-in-Pack-clause-steps : goal.returns-in-Pack-clause-steps
returns-in-Pack-clause-steps g c shared clone = other_event g.S.SharedCalls.seen g.C.CloneCalls.seen _ _ _ _ _ (ap event_of c.in-Pack.is) (c.pack.ensures.steps shared clone)

pub returns-in-Prune-clause-steps : goal.returns-in-Prune-clause-steps
returns-in-Prune-clause-steps g c shared clone = other_event g.S.SharedCalls.seen g.C.CloneCalls.seen _ _ _ _ _ (ap event_of c.in-Prune.is) (c.prune.ensures.steps shared clone)

pub returns-in-Restart-clause-steps : goal.returns-in-Restart-clause-steps
returns-in-Restart-clause-steps g c shared clone = other_event g.S.SharedCalls.seen g.C.CloneCalls.seen _ _ _ _ _ (ap event_of c.in-Restart.is) (c.restart.ensures.steps shared clone)

pub returns-in-Stop-clause-steps : goal.returns-in-Stop-clause-steps
returns-in-Stop-clause-steps g c shared clone = other_event g.S.SharedCalls.seen g.C.CloneCalls.seen _ _ _ _ _ (ap event_of c.in-Stop.is) (c.stop.ensures.steps shared clone)

pub returns-in-Forge-clause-steps : goal.returns-in-Forge-clause-steps
returns-in-Forge-clause-steps g c shared clone = other_event g.S.SharedCalls.seen g.C.CloneCalls.seen _ _ _ _ _ (ap event_of c.in-Forge.is) (c.forge.ensures.steps shared clone)
