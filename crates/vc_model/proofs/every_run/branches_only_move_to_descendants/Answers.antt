use Rattle.vc_model.proofs.Runs.{monotone as proved}
use Rattle.vc_model.proofs.every_run.branches_only_move_to_descendants.Goals as goal

pub returns : goal.returns
returns c = proved
