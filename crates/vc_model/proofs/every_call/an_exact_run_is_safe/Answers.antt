use Rattle.vc_model.proofs.ExactRuns.{exact_run_is_safe as proved}
use Rattle.vc_model.proofs.every_call.an_exact_run_is_safe.Goals as goal

pub returns : goal.returns
returns c = proved
