use Rattle.vc_model.proofs.Together.{all_together as proved}
use Rattle.vc_model.proofs.every_run.atomic_pushes_are_set_together.Goals as goal

pub returns : goal.returns
returns c = proved
