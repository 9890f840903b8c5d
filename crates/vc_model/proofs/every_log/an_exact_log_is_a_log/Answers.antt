use Rattle.vc_model.proofs.Desk.{exact_log_is_log as proved}
use Rattle.vc_model.proofs.every_log.an_exact_log_is_a_log.Goals as goal

pub returns : goal.returns
returns c = proved
