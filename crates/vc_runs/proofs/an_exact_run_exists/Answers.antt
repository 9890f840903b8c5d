use Rattle.vc_runs.proofs.Existing.{runs_exist}
use Rattle.vc_runs.proofs.an_exact_run_exists.Goals as goal

pub returns : goal.returns
returns c = runs_exist
