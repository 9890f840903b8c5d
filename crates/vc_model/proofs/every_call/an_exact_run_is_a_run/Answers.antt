use Rattle.vc_model.proofs.ExactRuns.{exact_run_is_run as proved}
use Rattle.vc_model.proofs.every_call.an_exact_run_is_a_run.Goals as goal

pub returns : goal.returns
returns c = proved
