use Rattle.vc_life.proofs.Along.{turns_moments}
use Rattle.vc_life.proofs.turns_are_moments.Goals as goal

pub returns : goal.returns
returns c = turns_moments
