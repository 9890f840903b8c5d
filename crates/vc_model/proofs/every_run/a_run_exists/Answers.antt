use Rattle.vc_model.proofs.Witness.{a_run as proved}
use Rattle.vc_model.proofs.every_run.a_run_exists.Goals as goal

pub returns : goal.returns
returns c = proved
