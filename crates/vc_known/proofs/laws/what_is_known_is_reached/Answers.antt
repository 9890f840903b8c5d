use Rattle.vc_known.proofs.StaysLemmas.{known-both, reached-both}
use Rattle.vc_known.proofs.laws.what_is_known_is_reached.Goals as goal

pub returns-clause-known : goal.returns-clause-known
returns-clause-known c = known-both

pub returns-clause-later : goal.returns-clause-later
returns-clause-later c objects known roots agrees reach id = reached-both objects known agrees roots reach id
