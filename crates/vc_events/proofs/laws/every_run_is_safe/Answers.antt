use Rattle.vc_events.proofs.RunLemmas.{every_run_is_safe}
use Rattle.vc_events.proofs.laws.every_run_is_safe.Goals as goal

pub returns : goal.returns
returns c = every_run_is_safe
