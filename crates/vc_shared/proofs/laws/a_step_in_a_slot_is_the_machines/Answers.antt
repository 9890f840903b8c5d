use Rattle.vc_shared.proofs.SteppingLaws.{stepped_answers, stepped_down}
use Rattle.vc_shared.proofs.TellingLemmas.{written_report}
use Rattle.vc_shared.proofs.laws.a_step_in_a_slot_is_the_machines.Goals as goal

pub returns-clause-up : goal.returns-clause-up
returns-clause-up c = λ old new slots after k was_up is_up result steps unchanged early refused bad tellable was up.
    stepped_answers old new slots after k was_up is_up result steps unchanged early refused bad tellable written_report was up

pub returns-clause-down : goal.returns-clause-down
returns-clause-down c = stepped_down
