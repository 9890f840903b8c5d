use Rattle.std.proofs.Common.{true, IsTrue, rules}
use Rattle.vc_local.specs.NodeFault.{is_fault}
use Rattle.vc_model.specs.World.{empty_repository}
use Rattle.vc_shared.specs.Holding.{HoldsShared}
use Rattle.vc_simulation.proofs.OpenLemmas.{fault_of_opening, in_err, in_ok, new_openable, shared_opened}
use Rattle.vc_simulation.specs.Nodes.{opened_shared}
use Rattle.vc_simulation.proofs.world_shared.WorldShared.open.Goals as goal

pub returns-in-Ok-clause-opens : goal.returns-in-Ok-clause-opens
returns-in-Ok-clause-opens g c honest frail ready r openable = shared_opened g.F.Files.honest g.F.Files.content g.F.Files.failed g.F.Files.can_fail g.F.Files.left frail c.args.files ready c.in-Ok.node r
    (in_ok (λ v. HoldsShared (g.F.Files.content v.files) v.slots true (opened_shared r)) c.open.result c.in-Ok.node c.in-Ok.is (c.open.ensures.opens honest r openable)) (search rules) (search rules)

pub returns-in-Ok-clause-new : goal.returns-in-Ok-clause-new
returns-in-Ok-clause-new g c honest frail ready none = returns-in-Ok-clause-opens g c honest frail ready empty_repository (new_openable (g.F.Files.content c.args.files) none)

pub returns-in-Err-clause-fault : goal.returns-in-Err-clause-fault
returns-in-Err-clause-fault g c honest frail ready r openable =
    fault_of_opening g.F.Files.honest g.F.Files.content g.F.Files.failed g.F.Files.can_fail g.F.Files.left frail c.args.files ready c.in-Err.back.0 c.in-Err.back.1
    (in_err (λ e. IsTrue (is_fault e.1)) c.open.result c.in-Err.back c.in-Err.is (c.open.ensures.only honest r openable)) (search rules)
