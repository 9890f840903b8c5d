use Rattle.vc_model.proofs.Values.{honest_tracking as proved}
use Rattle.vc_model.proofs.every_run.tracking_values_were_values.Goals as goal

pub returns : goal.returns
returns c = proved
