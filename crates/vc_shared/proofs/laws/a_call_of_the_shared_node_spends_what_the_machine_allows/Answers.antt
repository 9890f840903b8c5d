use Rattle.vc_local.specs.NodeFault.{TellsDevice as TellsNodeDevice}
use Rattle.vc_local.specs.Told.{FoundAs, RestartedAs}
use Rattle.vc_pruning.specs.Pruning.{PrunedAs}
use Rattle.vc_shared.specs.Calls.{AcceptedAs, SteppedAs}
use Rattle.vc_shared.specs.Faults.{TellsDevice, fault_answer}
use Rattle.vc_shared.proofs.BurningLemmas.{clean_suffices, may_step, opening_burns, shared_burns, step_suffices}
use Rattle.vc_shared.proofs.laws.a_call_of_the_shared_node_spends_what_the_machine_allows.Goals as goal

pub returns-clause-accepted : goal.returns-clause-accepted
returns-clause-accepted g c = shared_burns g.F.Files.honest g.F.Files.content g.F.Files.failed g.F.Files.can_fail g.F.Files.left AcceptedAs (λ r. TellsDevice r)

pub returns-clause-stepped : goal.returns-clause-stepped
returns-clause-stepped g c = shared_burns g.F.Files.honest g.F.Files.content g.F.Files.failed g.F.Files.can_fail g.F.Files.left SteppedAs (λ r. TellsDevice r)

pub returns-clause-found : goal.returns-clause-found
returns-clause-found g c = shared_burns g.F.Files.honest g.F.Files.content g.F.Files.failed g.F.Files.can_fail g.F.Files.left (FoundAs fault_answer) (λ r. TellsDevice r)

pub returns-clause-packed : goal.returns-clause-packed
returns-clause-packed g c = shared_burns g.F.Files.honest g.F.Files.content g.F.Files.failed g.F.Files.can_fail g.F.Files.left RestartedAs (λ r. TellsNodeDevice r)

pub returns-clause-step : goal.returns-clause-step
returns-clause-step g c = may_step

pub returns-clause-clean : goal.returns-clause-clean
returns-clause-clean g c = clean_suffices

pub returns-clause-enough : goal.returns-clause-enough
returns-clause-enough g c = step_suffices

pub returns-clause-opened : goal.returns-clause-opened
returns-clause-opened g c = opening_burns g.F.Files.honest g.F.Files.content g.F.Files.failed g.F.Files.can_fail g.F.Files.left RestartedAs (λ r. TellsNodeDevice r)

pub returns-clause-pruned : goal.returns-clause-pruned
returns-clause-pruned g c = shared_burns g.F.Files.honest g.F.Files.content g.F.Files.failed g.F.Files.can_fail g.F.Files.left PrunedAs (λ r. TellsNodeDevice r)
