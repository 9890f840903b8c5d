use Rattle.vc_known.proofs.LayerLemmas.{IsMetAbove-both, IsMetAbove-none}
use Rattle.vc_known.proofs.laws.walks_meet_what_is_above.Goals as goal

pub returns-clause-above : goal.returns-clause-above
returns-clause-above c = IsMetAbove-both

pub returns-clause-all : goal.returns-clause-all
returns-clause-all c = IsMetAbove-none
