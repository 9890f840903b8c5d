use Rattle.vc_format.proofs.Laws.{links_agree as proved}
use Rattle.vc_format.proofs.parents_are_links.Goals as goal

pub returns : goal.returns
returns c = proved
