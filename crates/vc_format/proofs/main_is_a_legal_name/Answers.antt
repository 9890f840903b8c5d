use Rattle.vc_format.proofs.Laws.{main_is_name as proved}
use Rattle.vc_format.proofs.main_is_a_legal_name.Goals as goal

pub returns : goal.returns
returns c = proved
