use Rattle.vc_object.proofs.Uniqueness.{commits_unique}
use Rattle.vc_object.proofs.laws.commits.Goals as goal

pub returns : goal.returns
returns c = record { unique = commits_unique }
