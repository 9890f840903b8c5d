use Rattle.vc_model.proofs.Apart.{refs_stay_apart as proved}
use Rattle.vc_model.proofs.every_run.refs_stay_apart.Goals as goal

pub returns : goal.returns
returns c = proved
