use Rattle.vc_local.proofs.ValueLemmas.{values_are_told}
use Rattle.vc_shared.proofs.ResolvingLemmas.{down_declines, values_answer}
use Rattle.vc_shared.proofs.resolving.the_value_of_an_expression_is_the_machines.Goals as goal

pub returns-clause-told : goal.returns-clause-told
returns-clause-told c = values_are_told

pub returns-clause-up : goal.returns-clause-up
returns-clause-up c = values_answer

pub returns-clause-down : goal.returns-clause-down
returns-clause-down c = down_declines
