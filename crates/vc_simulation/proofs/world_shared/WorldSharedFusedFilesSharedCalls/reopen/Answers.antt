use Rattle.vc_simulation.proofs.FuseLemmas.{shared_restarted}
use Rattle.vc_simulation.proofs.world_shared.WorldSharedFusedFilesSharedCalls.reopen.Goals as goal

pub returns : goal.returns
returns g c = record {
  answers = λ honest. shared_restarted g.F.Files.honest g.F.Files.content g.F.Files.failed g.F.Files.can_fail g.F.Files.left c.args.self.now (record { node = c.mend.new.self }) _ c.restart-called.result _
      c.mend.ensures.files c.mend.ensures.fuse c.mend.ensures.slots c.mend.ensures.up (c.restart-called.ensures.answers honest) c.restart-called.ensures.wear c.restart-called.ensures.up c.restarted.ensures;
}
