use Rattle.vc_local.proofs.OpeningLaws.{new_files_open}
use Rattle.vc_local.proofs.opened.new_files_can_be_opened.Goals as goal

pub returns : goal.returns
returns c = new_files_open
