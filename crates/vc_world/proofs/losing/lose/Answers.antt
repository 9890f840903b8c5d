use Rattle.std.proofs.Common.{refl}
use Rattle.vc_world.proofs.LosingLemmas.{lost_answers}
use Rattle.vc_world.proofs.losing.lose.Goals as goal

pub returns-clause-answers : goal.returns-clause-answers
returns-clause-answers g c = λ honest up call other. rw c.take_down.ensures.files (lost_answers call other c.args.fault _ refl _ _ _ _ _ _ refl c.take_down.ensures.awaits up c.take_down.ensures.up)
