use Rattle.vc_simulation.proofs.FuseLemmas.{shared_stopped}
use Rattle.vc_simulation.proofs.world_shared.WorldSharedFusedFilesSharedCalls.stop.Goals as goal

pub returns : goal.returns
returns g c = record {
  stops = λ honest. shared_stopped g.F.Files.content g.F.Files.can_fail g.F.Files.left c.args.writes c.args.self.now _ c.stop_after.ensures.files c.stop_after.ensures.fuse c.stop_after.ensures.slots c.stop_after.ensures.up;
}
