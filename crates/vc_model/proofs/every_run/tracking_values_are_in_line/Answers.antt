use Rattle.vc_model.proofs.Values.{in_line as proved}
use Rattle.vc_model.proofs.every_run.tracking_values_are_in_line.Goals as goal

pub returns : goal.returns
returns c = proved
