use Rattle.vc_desk.proofs.LawLemmas.{every_log_is_safe}
use Rattle.vc_desk.specs.Runs.{Held}
use Rattle.vc_desk.proofs.laws.every_log_is_safe.Goals as goal

pub returns : goal.returns
returns g c = every_log_is_safe (Held g.F.Files.content)
