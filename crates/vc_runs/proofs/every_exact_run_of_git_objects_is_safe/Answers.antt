use Rattle.vc_runs.proofs.Safety.{every_exact_git_run_is_safe}
use Rattle.vc_runs.proofs.every_exact_run_of_git_objects_is_safe.Goals as goal

pub returns : goal.returns
returns c = every_exact_git_run_is_safe
