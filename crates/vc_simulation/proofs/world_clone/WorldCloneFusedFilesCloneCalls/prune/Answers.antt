use Rattle.vc_files.specs.Fused.{FusedCanFail, fused_failed, fused_left}
use Rattle.vc_rules.specs.Stops.{IsBelow}
use Rattle.vc_model.specs.CloneCall.CloneCall.{Prune}
use Rattle.vc_local.specs.NodeFault.{TellsDevice}
use Rattle.vc_pruning.specs.Pruning.{PrunedAs}
use Rattle.vc_simulation.proofs.CloneLemmas.{exchange_called, pruning}
use Rattle.vc_simulation.proofs.FuseLemmas.{lift_clone}
use Rattle.vc_simulation.proofs.world_clone.WorldCloneFusedFilesCloneCalls.prune.Goals as goal

pub returns : goal.returns
returns g c = record {
  answers = λ honest. lift_clone (λ frail. IsBelow g.F.Files.can_fail g.F.Files.left frail) (λ s. s.node) _ _ _ _ _ (exchange_called g.F.Files.honest (λ s. g.F.Files.content s.files) (fused_failed g.F.Files.failed) (FusedCanFail g.F.Files.can_fail g.F.Files.left) (fused_left g.F.Files.left) c.args.self.now.node c.prune-called.new.self Prune (PrunedAs c.prune-called.result) (TellsDevice c.prune-called.result) _ honest (λ h. absurd (cc)) (c.prune-called.ensures.answers honest)
      (pruning g.F.Files.honest (λ s. g.F.Files.content s.files) (fused_failed g.F.Files.failed) (FusedCanFail g.F.Files.can_fail g.F.Files.left) (fused_left g.F.Files.left) c.args.self.now.node c.prune-called.new.self c.prune-called.result c.prune-called.ensures.wear c.prune-called.ensures.settles.down c.prune-called.ensures.settles.unchanged c.prune-called.ensures.settles.up (c.prune-called.ensures.clean honest)) c.pruned.ensures);
}
