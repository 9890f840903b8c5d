use Rattle.vc_model.proofs.Left.{no_write_is_left as proved}
use Rattle.vc_model.proofs.every_call.nothing_changes_without_writes.Goals as goal

pub returns : goal.returns
returns c = proved
