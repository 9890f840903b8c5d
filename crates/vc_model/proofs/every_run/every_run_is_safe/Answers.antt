use Rattle.vc_model.proofs.Safety.{every_run_safe as proved}
use Rattle.vc_model.proofs.every_run.every_run_is_safe.Goals as goal

pub returns : goal.returns
returns c = proved
