use Rattle.vc_world.proofs.pushing.start.Goals as goal

pub returns-then-atomic-clause-answers : goal.returns-then-atomic-clause-answers
returns-then-atomic-clause-answers g c = λ honest zero. rw c.if-atomic.true (c.start_push_atomic.ensures.answers honest zero)

pub returns-clause-answers : goal.returns-clause-answers
returns-clause-answers g c = λ honest zero. rw c.if-atomic.false (c.start_push.ensures.answers honest zero)
