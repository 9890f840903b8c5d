use Rattle.vc_rules.proofs.VerdictLaws.{check_needs_agree, checks_agree}
use Rattle.vc_rules.proofs.the_check_of_a_push_is_the_machines.Goals as goal

pub returns-clause-needs : goal.returns-clause-needs
returns-clause-needs c = check_needs_agree

pub returns-clause-verdict : goal.returns-clause-verdict
returns-clause-verdict c = checks_agree
