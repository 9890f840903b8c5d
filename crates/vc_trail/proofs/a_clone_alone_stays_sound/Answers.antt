use Rattle.vc_model.specs.Rules.{rules_by}
use Rattle.vc_trail.proofs.Steps.{stays_sound}
use Rattle.vc_trail.proofs.a_clone_alone_stays_sound.Goals as goal

pub returns : goal.returns
returns c fmt tests = stays_sound fmt (rules_by fmt tests)
