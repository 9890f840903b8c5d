use Rattle.vc_files.specs.Fused.{FusedCanFail, fused_failed, fused_left}
use Rattle.vc_rules.specs.Stops.{IsBelow}
use Rattle.vc_model.specs.CloneCall.CloneCall.{Asks, Receive}
use Rattle.vc_model.specs.Question.Question.{Unread}
use Rattle.vc_node.specs.CloneCalls.{ReceivedAs}
use Rattle.vc_node.specs.CloneFaults.{TellsDevice}
use Rattle.vc_simulation.proofs.CloneLemmas.{bytes_may, exchange_called, receiving}
use Rattle.vc_simulation.proofs.FuseLemmas.{lift_clone}
use Rattle.vc_simulation.proofs.world_clone.WorldCloneFusedFilesCloneCalls.deliver.Goals as goal

pub returns : goal.returns
returns g c = record {
  answers = λ honest m reads. lift_clone (λ frail. IsBelow g.F.Files.can_fail g.F.Files.left frail) (λ s. s.node) _ _ _ _ _ (exchange_called g.F.Files.honest (λ s. g.F.Files.content s.files) (fused_failed g.F.Files.failed) (FusedCanFail g.F.Files.can_fail g.F.Files.left) (fused_left g.F.Files.left) c.args.self.now.node c.receive-called.new.self (Receive m) (ReceivedAs c.receive-called.result) (TellsDevice c.receive-called.result) _ honest (λ h. absurd (cc)) (c.receive-called.ensures.answers honest m reads)
      (receiving g.F.Files.honest (λ s. g.F.Files.content s.files) (fused_failed g.F.Files.failed) (FusedCanFail g.F.Files.can_fail g.F.Files.left) (fused_left g.F.Files.left) (Receive m) c.args.self.now.node c.receive-called.new.self c.receive-called.result c.receive-called.ensures.wear c.receive-called.ensures.settles.unchanged c.receive-called.ensures.settles.up (c.receive-called.ensures.clean honest) (c.receive-called.ensures.looks honest m reads)) c.received.ensures);
  unread = λ honest k unread. lift_clone (λ frail. IsBelow g.F.Files.can_fail g.F.Files.left frail) (λ s. s.node) _ _ _ _ _ (exchange_called g.F.Files.honest (λ s. g.F.Files.content s.files) (fused_failed g.F.Files.failed) (FusedCanFail g.F.Files.can_fail g.F.Files.left) (fused_left g.F.Files.left) c.args.self.now.node c.receive-called.new.self (Asks (Unread k)) (ReceivedAs c.receive-called.result) (TellsDevice c.receive-called.result) _ honest (λ h. absurd (cc)) (c.receive-called.ensures.unread honest k unread)
      (receiving g.F.Files.honest (λ s. g.F.Files.content s.files) (fused_failed g.F.Files.failed) (FusedCanFail g.F.Files.can_fail g.F.Files.left) (fused_left g.F.Files.left) (Asks (Unread k)) c.args.self.now.node c.receive-called.new.self c.receive-called.result c.receive-called.ensures.wear c.receive-called.ensures.settles.unchanged c.receive-called.ensures.settles.up (c.receive-called.ensures.clean honest)
      (bytes_may g.F.Files.honest (λ s. g.F.Files.content s.files) (fused_failed g.F.Files.failed) (FusedCanFail g.F.Files.can_fail g.F.Files.left) (fused_left g.F.Files.left) c.args.self.now.node c.receive-called.new.self k c.receive-called.result c.receive-called.ensures.settles.down c.receive-called.ensures.settles.unchanged)) c.received.ensures);
}
