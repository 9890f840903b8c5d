use Rattle.vc_history.proofs.StoredLemmas.{Agrees-more}
use Rattle.vc_history.proofs.laws.more_objects_agree.Goals as goal

pub returns : goal.returns
returns c = Agrees-more
