use Rattle.vc_known.proofs.ReachLemmas.{reaches-added, reaches-descendants, reaches-grown, reaches-later, reaches-pruned}
use Rattle.vc_known.proofs.laws.roots_that_moved_forward_reach.Goals as goal

pub returns-clause-descendants : goal.returns-clause-descendants
returns-clause-descendants c = reaches-descendants

pub returns-clause-added : goal.returns-clause-added
returns-clause-added c objects known before roots moments = reaches-added objects known roots before moments

pub returns-clause-later : goal.returns-clause-later
returns-clause-later c objects known roots later reach on = reaches-later objects known roots later reach on

pub returns-clause-grown : goal.returns-clause-grown
returns-clause-grown c objects more known roots stays reach = reaches-grown objects known roots more stays reach

pub returns-clause-pruned : goal.returns-clause-pruned
returns-clause-pruned c objects fewer known roots kept reach = reaches-pruned objects known roots fewer kept reach
