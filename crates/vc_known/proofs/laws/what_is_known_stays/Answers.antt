use Rattle.vc_known.proofs.StaysLemmas.{Agrees-grown, Agrees-kept}
use Rattle.vc_known.proofs.laws.what_is_known_stays.Goals as goal

pub returns-clause-grown : goal.returns-clause-grown
returns-clause-grown c objects more known stays agrees = Agrees-grown objects known agrees more stays

pub returns-clause-kept : goal.returns-clause-kept
returns-clause-kept c objects fewer known agrees kept = Agrees-kept objects known agrees fewer kept
