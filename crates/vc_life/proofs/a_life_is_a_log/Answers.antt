use Rattle.vc_model.specs.Rules.{rules_by}
use Rattle.vc_life.proofs.Along.{life_log}
use Rattle.vc_life.proofs.a_life_is_a_log.Goals as goal

pub returns : goal.returns
returns c fmt tests = life_log fmt (rules_by fmt tests)
