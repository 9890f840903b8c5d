use Rattle.vc_shared.proofs.ShowingLemmas.{one_opening}
use Rattle.vc_shared.proofs.opening.a_node_has_one_opening.Goals as goal

pub returns : goal.returns
returns c = one_opening
