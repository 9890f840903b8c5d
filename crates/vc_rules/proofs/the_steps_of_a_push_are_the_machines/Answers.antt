use Rattle.vc_rules.proofs.CarriedLemmas.{each_is_brought}
use Rattle.vc_rules.proofs.OpenPushLaws.{early_agree, opens_agree, others_stay, steps_agree}
use Rattle.vc_rules.proofs.TurnLaws.{nexts_agree, turns_agree}
use Rattle.vc_rules.proofs.WritingLaws.{writes_agree}
use Rattle.vc_rules.proofs.the_steps_of_a_push_are_the_machines.Goals as goal

pub returns-clause-brought : goal.returns-clause-brought
returns-clause-brought c = each_is_brought

pub returns-clause-opened : goal.returns-clause-opened
returns-clause-opened c = opens_agree

pub returns-clause-steps : goal.returns-clause-steps
returns-clause-steps c = steps_agree

pub returns-clause-others : goal.returns-clause-others
returns-clause-others c = others_stay

pub returns-clause-early : goal.returns-clause-early
returns-clause-early c = early_agree

pub returns-clause-writes : goal.returns-clause-writes
returns-clause-writes c = writes_agree

pub returns-clause-turns : goal.returns-clause-turns
returns-clause-turns c = turns_agree

pub returns-clause-nexts : goal.returns-clause-nexts
returns-clause-nexts c = nexts_agree
