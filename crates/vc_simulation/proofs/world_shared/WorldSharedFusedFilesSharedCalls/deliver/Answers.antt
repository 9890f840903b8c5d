use Rattle.vc_files.specs.Fused.{FusedCanFail, fused_failed, fused_left}
use Rattle.vc_rules.specs.Stops.{IsBelow}
use Rattle.vc_model.specs.Question.Question.{Unread}
use Rattle.vc_model.specs.SharedCall.SharedCall.{Accept, Asks}
use Rattle.vc_shared.specs.Calls.{AcceptedAs}
use Rattle.vc_shared.specs.Faults.{TellsDevice}
use Rattle.vc_simulation.proofs.FuseLemmas.{lift_shared}
use Rattle.vc_simulation.proofs.SharedLemmas.{bytes_write, called, message_writes, writing}
use Rattle.vc_simulation.proofs.world_shared.WorldSharedFusedFilesSharedCalls.deliver.Goals as goal

pub returns : goal.returns
returns g c = record {
  answers = λ honest m reads. lift_shared (λ frail. IsBelow g.F.Files.can_fail g.F.Files.left frail) (λ s. s.node) _ _ _ _ _ (called g.F.Files.honest (λ s. g.F.Files.content s.files) (fused_failed g.F.Files.failed) (FusedCanFail g.F.Files.can_fail g.F.Files.left) (fused_left g.F.Files.left) c.args.self.now.node c.accept-called.new.self (Accept m) (AcceptedAs c.accept-called.result) (TellsDevice c.accept-called.result) _ honest (λ h. absurd (cc)) (c.accept-called.ensures.answers honest m reads)
      (writing g.F.Files.honest (λ s. g.F.Files.content s.files) (fused_failed g.F.Files.failed) (FusedCanFail g.F.Files.can_fail g.F.Files.left) (fused_left g.F.Files.left) (Accept m) c.args.self.now.node c.accept-called.new.self c.accept-called.result c.accept-called.ensures.wear c.accept-called.ensures.settles.down c.accept-called.ensures.settles.unchanged c.accept-called.ensures.settles.up (c.accept-called.ensures.clean honest)
      (message_writes g.F.Files.honest (λ s. g.F.Files.content s.files) (fused_failed g.F.Files.failed) (FusedCanFail g.F.Files.can_fail g.F.Files.left) (fused_left g.F.Files.left) c.args.self.now.node c.accept-called.new.self m (TellsDevice c.accept-called.result) (c.accept-called.ensures.looks m reads))) c.accepted.ensures);
  unread = λ honest k unread. lift_shared (λ frail. IsBelow g.F.Files.can_fail g.F.Files.left frail) (λ s. s.node) _ _ _ _ _ (called g.F.Files.honest (λ s. g.F.Files.content s.files) (fused_failed g.F.Files.failed) (FusedCanFail g.F.Files.can_fail g.F.Files.left) (fused_left g.F.Files.left) c.args.self.now.node c.accept-called.new.self (Asks (Unread k)) (AcceptedAs c.accept-called.result) (TellsDevice c.accept-called.result) _ honest (λ h. absurd (cc)) (c.accept-called.ensures.unread honest k unread)
      (writing g.F.Files.honest (λ s. g.F.Files.content s.files) (fused_failed g.F.Files.failed) (FusedCanFail g.F.Files.can_fail g.F.Files.left) (fused_left g.F.Files.left) (Asks (Unread k)) c.args.self.now.node c.accept-called.new.self c.accept-called.result c.accept-called.ensures.wear c.accept-called.ensures.settles.down c.accept-called.ensures.settles.unchanged c.accept-called.ensures.settles.up (c.accept-called.ensures.clean honest)
      (bytes_write g.F.Files.honest (λ s. g.F.Files.content s.files) (fused_failed g.F.Files.failed) (FusedCanFail g.F.Files.can_fail g.F.Files.left) (fused_left g.F.Files.left) c.args.self.now.node c.accept-called.new.self k (TellsDevice c.accept-called.result))) c.accepted.ensures);
}
