use Rattle.vc_script.proofs.ByHandLemmas.{scripts_by_hand}
use Rattle.vc_script.proofs.laws.scripts_by_hand.Goals as goal

pub returns : goal.returns
returns c = scripts_by_hand
