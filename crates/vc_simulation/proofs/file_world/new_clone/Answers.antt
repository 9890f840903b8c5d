use Rattle.std.proofs.Common.{subst, sym}
use Rattle.vc_events.specs.World.{fresh_clone}
use Rattle.vc_model.specs.World.{empty_repository}
use Rattle.vc_simulation.proofs.OpenLemmas.{in_err, in_ok, memory_unless, new_openable}
use Rattle.vc_simulation.specs.Nodes.{BeginsAs, IsFaultOf, IsMemoryUnless, seen_cloned}
use Rattle.vc_simulation.proofs.file_world.new_clone.Goals as goal

pub returns-in-Ok-clause-new : goal.returns-in-Ok-clause-new
returns-in-Ok-clause-new g c honest frail below none =
    in_ok (λ w. BeginsAs (seen_cloned g.F.Files.content g.F.Files.can_fail g.F.Files.left) frail w fresh_clone) c.over.result c.in-Ok.clone c.in-Ok.is (c.over.ensures.new honest frail below none)

pub returns-in-Err-clause-fault : goal.returns-in-Err-clause-fault
returns-in-Err-clause-fault g c honest frail below none =
    subst (IsMemoryUnless frail) (sym c.fault_of.ensures)
    (memory_unless frail c.in-Err.back.1 (in_err (λ e. IsFaultOf frail e.1) c.over.result c.in-Err.back c.in-Err.is (c.over.ensures.fault honest frail below empty_repository (new_openable (g.F.Files.content c.args.files) none))))
