use Rattle.vc_model.proofs.Racing.{the_race as proved}
use Rattle.vc_model.proofs.every_run.the_race_of_two_pushes.Goals as goal

pub returns : goal.returns
returns c = proved
