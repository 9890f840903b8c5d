use Rattle.vc_model.specs.Rules.{rules_by}
use Rattle.vc_life.proofs.Setting.{life_told}
use Rattle.vc_life.proofs.what_is_told_is_set.Goals as goal

pub returns : goal.returns
returns c fmt tests = life_told fmt (rules_by fmt tests)
