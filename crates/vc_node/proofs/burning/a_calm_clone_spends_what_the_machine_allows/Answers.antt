use Rattle.vc_rules.specs.Told.{Quietly}
use Rattle.vc_node.proofs.CalmLemmas.{clone_burns, clone_suffices}
use Rattle.vc_node.specs.CloneCalls.{ReceivedAs, SentAs}
use Rattle.vc_node.specs.CloneFaults.{TellsDevice as CloneTellsDevice, fault_answer}
use Rattle.vc_local.specs.Machine.{done_answer, made_answer}
use Rattle.vc_local.specs.NodeFault.{TellsDevice}
use Rattle.vc_local.specs.Told.{FoundAs, RestartedAs}
use Rattle.vc_pruning.specs.Pruning.{PrunedAs}
use Rattle.vc_node.proofs.burning.a_calm_clone_spends_what_the_machine_allows.Goals as goal

pub returns-clause-made : goal.returns-clause-made
returns-clause-made g c = clone_burns g.F.Files.honest g.F.Files.content g.F.Files.failed g.F.Files.can_fail g.F.Files.left (λ r. Quietly (made_answer r)) (λ r. TellsDevice r)

pub returns-clause-done : goal.returns-clause-done
returns-clause-done g c = clone_burns g.F.Files.honest g.F.Files.content g.F.Files.failed g.F.Files.can_fail g.F.Files.left (λ r. Quietly (done_answer r)) (λ r. TellsDevice r)

pub returns-clause-received : goal.returns-clause-received
returns-clause-received g c = clone_burns g.F.Files.honest g.F.Files.content g.F.Files.failed g.F.Files.can_fail g.F.Files.left ReceivedAs (λ r. CloneTellsDevice r)

pub returns-clause-sent : goal.returns-clause-sent
returns-clause-sent g c = clone_burns g.F.Files.honest g.F.Files.content g.F.Files.failed g.F.Files.can_fail g.F.Files.left SentAs (λ r. CloneTellsDevice r)

pub returns-clause-found : goal.returns-clause-found
returns-clause-found g c = clone_burns g.F.Files.honest g.F.Files.content g.F.Files.failed g.F.Files.can_fail g.F.Files.left (FoundAs fault_answer) (λ r. CloneTellsDevice r)

pub returns-clause-packed : goal.returns-clause-packed
returns-clause-packed g c = clone_burns g.F.Files.honest g.F.Files.content g.F.Files.failed g.F.Files.can_fail g.F.Files.left RestartedAs (λ r. TellsDevice r)

pub returns-clause-pruned : goal.returns-clause-pruned
returns-clause-pruned g c = clone_burns g.F.Files.honest g.F.Files.content g.F.Files.failed g.F.Files.can_fail g.F.Files.left PrunedAs (λ r. TellsDevice r)

pub returns-clause-enough : goal.returns-clause-enough
returns-clause-enough g c = clone_suffices
