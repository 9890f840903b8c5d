use Rattle.std.proofs.Common.{◌≤◌, rules, refl, arith, vec_capacity, vec_len}
use Rattle.vc_lemmas.proofs.Lists.{on_err}
use Rattle.vc_events.proofs.RunLemmas.{roomier_steps}
use Rattle.vc_events.proofs.world.World.step.Goals as goal

pub returns-clause-steps : goal.returns-clause-steps
returns-clause-steps g c shared clone = roomier_steps g.S.SharedCalls.seen g.C.CloneCalls.seen _ _ _ _ _ _ (search rules) refl (c.answer.ensures.steps shared clone)

pub returns-in_err-reserve-clause-full : goal.returns-in_err-reserve-clause-full
returns-in_err-reserve-clause-full g c =
    let full : vec_capacity c.reserve.new.self ≤ vec_len c.reserve.new.self = omega (arith, c.in_err-reserve.ensures.full, c.in_err-reserve.ensures.err, c.reserve.ensures.len) in
    on_err c.from_residual.result _ full
