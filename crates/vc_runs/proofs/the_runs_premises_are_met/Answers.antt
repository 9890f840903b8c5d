use Rattle.vc_runs.proofs.Existing.{premises_are_met}
use Rattle.vc_runs.proofs.the_runs_premises_are_met.Goals as goal

pub returns : goal.returns
returns c = premises_are_met
