use Rattle.vc_runs.proofs.Names.{names_are_known}
use Rattle.vc_runs.proofs.three_names_are_gits.Goals as goal

pub returns : goal.returns
returns c = names_are_known
