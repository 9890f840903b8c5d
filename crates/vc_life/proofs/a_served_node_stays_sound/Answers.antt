use Rattle.vc_model.specs.Rules.{rules_by}
use Rattle.vc_life.proofs.Along.{life_sound}
use Rattle.vc_life.proofs.a_served_node_stays_sound.Goals as goal

pub returns : goal.returns
returns c fmt tests = life_sound fmt (rules_by fmt tests)
