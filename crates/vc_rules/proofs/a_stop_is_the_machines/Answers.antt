use Rattle.vc_model.specs.Clone.{Awaited}
use Rattle.vc_model.specs.Push.{Slots}
use Rattle.vc_rules.proofs.StopLemmas.{fuse_is_mended, stop_is_set}
use Rattle.vc_rules.proofs.a_stop_is_the_machines.Goals as goal

pub returns-clause-shared : goal.returns-clause-shared
returns-clause-shared g c = stop_is_set Slots g.F.Files.can_fail g.F.Files.left

pub returns-clause-clone : goal.returns-clause-clone
returns-clause-clone g c = stop_is_set Awaited g.F.Files.can_fail g.F.Files.left

pub returns-clause-mended : goal.returns-clause-mended
returns-clause-mended g c = fuse_is_mended g.F.Files.can_fail g.F.Files.left
