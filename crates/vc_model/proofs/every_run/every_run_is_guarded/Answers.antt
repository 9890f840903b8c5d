use Rattle.vc_model.proofs.Safety.{every_run_guarded as proved}
use Rattle.vc_model.proofs.every_run.every_run_is_guarded.Goals as goal

pub returns : goal.returns
returns c = proved
