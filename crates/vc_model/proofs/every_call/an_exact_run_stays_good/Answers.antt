use Rattle.vc_model.proofs.Good.{exact_run_stays_good as proved}
use Rattle.vc_model.proofs.every_call.an_exact_run_stays_good.Goals as goal

pub returns : goal.returns
returns c = proved
