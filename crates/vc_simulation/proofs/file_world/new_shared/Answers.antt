use Rattle.std.proofs.Common.{subst, sym}
use Rattle.vc_events.specs.World.{fresh_shared}
use Rattle.vc_model.specs.World.{empty_repository}
use Rattle.vc_simulation.proofs.OpenLemmas.{in_err, in_ok, memory_unless, new_openable}
use Rattle.vc_simulation.specs.Nodes.{BeginsAs, IsFaultOf, IsMemoryUnless, seen_served}
use Rattle.vc_simulation.proofs.file_world.new_shared.Goals as goal

pub returns-in-Ok-clause-new : goal.returns-in-Ok-clause-new
returns-in-Ok-clause-new g c honest frail below none =
    in_ok (λ w. BeginsAs (seen_served g.F.Files.content g.F.Files.can_fail g.F.Files.left) frail w fresh_shared) c.over.result c.in-Ok.shared c.in-Ok.is (c.over.ensures.new honest frail below none)

pub returns-in-Err-clause-fault : goal.returns-in-Err-clause-fault
returns-in-Err-clause-fault g c honest frail below none =
    subst (IsMemoryUnless frail) (sym c.fault_of.ensures)
    (memory_unless frail c.in-Err.back.1 (in_err (λ e. IsFaultOf frail e.1) c.over.result c.in-Err.back c.in-Err.is (c.over.ensures.fault honest frail below empty_repository (new_openable (g.F.Files.content c.args.files) none))))
