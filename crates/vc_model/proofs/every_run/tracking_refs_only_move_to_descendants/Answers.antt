use Rattle.vc_model.proofs.Forward.{steady as proved}
use Rattle.vc_model.proofs.every_run.tracking_refs_only_move_to_descendants.Goals as goal

pub returns : goal.returns
returns c = proved
