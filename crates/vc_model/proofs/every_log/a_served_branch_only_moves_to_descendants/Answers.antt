use Rattle.vc_model.proofs.Desk.{desk_forward as proved}
use Rattle.vc_model.proofs.every_log.a_served_branch_only_moves_to_descendants.Goals as goal

pub returns : goal.returns
returns c = proved
