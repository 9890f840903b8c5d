use Rattle.vc_model.specs.Rules.{rules_by}
use Rattle.vc_life.proofs.Reporting.{life_reports}
use Rattle.vc_life.proofs.each_report_is_of_a_push.Goals as goal

pub returns : goal.returns
returns c fmt tests = life_reports fmt (rules_by fmt tests)
