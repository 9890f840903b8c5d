use Rattle.std.proofs.Common.{true, IsTrue, rules}
use Rattle.vc_model.specs.Clone.Awaited.{Nothing}
use Rattle.vc_model.specs.World.{empty_repository}
use Rattle.vc_local.proofs.EmptyingLemmas.{openable_kept}
use Rattle.vc_local.specs.Machine.{HoldsNode}
use Rattle.vc_local.specs.NodeFault.{is_fault}
use Rattle.vc_local.specs.Opening.{opened_node}
use Rattle.vc_simulation.proofs.OpenLemmas.{clone_opened, fault_of_opening, in_err, in_ok, new_openable}
use Rattle.vc_simulation.proofs.world_clone.WorldClone.open.Goals as goal

pub returns-in-Ok-clause-opens : goal.returns-in-Ok-clause-opens
returns-in-Ok-clause-opens g c honest frail ready r openable = clone_opened g.F.Files.honest g.F.Files.content g.F.Files.failed g.F.Files.can_fail g.F.Files.left frail c.args.files ready c.in-Ok.node r
    (in_ok (λ v. HoldsNode (g.F.Files.content v.files) true Nothing (opened_node r)) c.open.result c.in-Ok.node c.in-Ok.is (c.open.ensures.opens honest r openable)) (search rules) (search rules) (search rules)

pub returns-in-Ok-clause-new : goal.returns-in-Ok-clause-new
returns-in-Ok-clause-new g c honest frail ready none = returns-in-Ok-clause-opens g c honest frail ready empty_repository (new_openable (g.F.Files.content c.args.files) none)

pub returns-in-Err-clause-fault : goal.returns-in-Err-clause-fault
returns-in-Err-clause-fault g c honest frail ready r openable =
    fault_of_opening g.F.Files.honest g.F.Files.content g.F.Files.failed g.F.Files.can_fail g.F.Files.left frail c.args.files ready c.in-Err.back.0 c.in-Err.back.1
    (in_err (λ e. IsTrue (is_fault e.1)) c.open.result c.in-Err.back c.in-Err.is (c.open.ensures.only honest r openable)) (search rules)

pub returns-in-Err-clause-err : goal.returns-in-Err-clause-err
returns-in-Err-clause-err g c honest r can = openable_kept (g.F.Files.content c.args.files) (g.F.Files.content c.in-Err.back.0) (search rules) r can
