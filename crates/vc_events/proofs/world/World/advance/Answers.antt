use Rattle.std.proofs.Common.{rules, refl}
use Rattle.vc_model.specs.SharedCall.SharedCall.{StepOf}
use Rattle.vc_events.proofs.EventLemmas.{slot_event}
use Rattle.vc_events.proofs.world.World.advance.Goals as goal

pub returns-clause-steps : goal.returns-clause-steps
returns-clause-steps g c shared clone = slot_event g.S.SharedCalls.seen g.C.CloneCalls.seen _ _ c.args.slot c.sender_of-sender.result (StepOf c.args.slot) c.advance-called.result _ _
    refl (search rules) c.sender_of-sender.ensures (c.advance-called.ensures.answers shared) c.from_shared.ensures.posts c.from_shared.ensures.senders (λ w is. (is, refl))
