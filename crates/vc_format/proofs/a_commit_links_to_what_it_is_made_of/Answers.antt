use Rattle.vc_format.proofs.Laws.{spells_commits as proved}
use Rattle.vc_format.proofs.a_commit_links_to_what_it_is_made_of.Goals as goal

pub returns : goal.returns
returns c = proved
