use Rattle.vc_model.specs.Rules.{rules_by}
use Rattle.vc_life.proofs.Safety.{life_forward}
use Rattle.vc_life.proofs.a_served_node_goes_forward.Goals as goal

pub returns : goal.returns
returns c fmt tests = life_forward fmt (rules_by fmt tests)
