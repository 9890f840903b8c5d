use Rattle.vc_model.proofs.OneWorld.{device_needs_a_stop as proved}
use Rattle.vc_model.proofs.every_call.the_device_fails_only_after_a_stop.Goals as goal

pub returns : goal.returns
returns c = proved
