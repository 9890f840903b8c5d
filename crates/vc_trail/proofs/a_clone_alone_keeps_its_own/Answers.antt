use Rattle.vc_model.specs.Rules.{rules_by}
use Rattle.vc_trail.proofs.Keeping.{keeps}
use Rattle.vc_trail.proofs.a_clone_alone_keeps_its_own.Goals as goal

pub returns : goal.returns
returns c fmt tests = keeps fmt (rules_by fmt tests)
