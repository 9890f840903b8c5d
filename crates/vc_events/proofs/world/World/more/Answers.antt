use Rattle.std.proofs.Common.{◌≤◌, ◌⊎◌, inl, inr, arith, vec_capacity, vec_len}
use Rattle.vc_events.specs.World.{IsFull}
use Rattle.vc_lemmas.proofs.Lists.{on_err}
use Rattle.vc_events.proofs.world.World.more.Goals as goal

pub returns-in_err-reserve-clause-full : goal.returns-in_err-reserve-clause-full
returns-in_err-reserve-clause-full g c =
    let full : vec_capacity c.reserve.new.self ≤ vec_len c.reserve.new.self = omega (arith, c.in_err-reserve.ensures.full, c.in_err-reserve.ensures.err, c.reserve.ensures.len) in
    on_err c.from_residual.result (IsFull c.reserve.new.self ⊎ IsFull c.args.self.now.letters) (inl full)

pub returns-in_err-answer-clause-full : goal.returns-in_err-answer-clause-full
returns-in_err-answer-clause-full g c =
    on_err c.from_residual-in_err-answer.result (IsFull c.reserve.new.self ⊎ IsFull c.step.new.self.letters) (inr c.in_err-answer.ensures.full)

pub returns-in_err-push-clause-full : goal.returns-in_err-push-clause-full
returns-in_err-push-clause-full g c = absurd (omega (arith, c.in_err-push.ensures.full, c.in_ok-reserve.ensures.ok))
