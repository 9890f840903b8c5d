use Rattle.vc_model.proofs.ExactRuns.{exact_run_stays_sound as proved}
use Rattle.vc_model.proofs.every_call.an_exact_run_stays_sound.Goals as goal

pub returns : goal.returns
returns c = proved
