use Rattle.vc_files.specs.Fused.{FusedCanFail, fused_failed, fused_left}
use Rattle.vc_rules.specs.Stops.{IsBelow}
use Rattle.vc_model.specs.CloneCall.CloneCall.{Asks}
use Rattle.vc_model.specs.Question.Question.{PackRefs}
use Rattle.vc_local.specs.NodeFault.{TellsDevice}
use Rattle.vc_local.specs.Told.{RestartedAs}
use Rattle.vc_simulation.proofs.CloneLemmas.{exchange_called, packing}
use Rattle.vc_simulation.proofs.FuseLemmas.{lift_clone}
use Rattle.vc_simulation.proofs.world_clone.WorldCloneFusedFilesCloneCalls.pack.Goals as goal

pub returns : goal.returns
returns g c = record {
  answers = λ honest. lift_clone (λ frail. IsBelow g.F.Files.can_fail g.F.Files.left frail) (λ s. s.node) _ _ _ _ _ (exchange_called g.F.Files.honest (λ s. g.F.Files.content s.files) (fused_failed g.F.Files.failed) (FusedCanFail g.F.Files.can_fail g.F.Files.left) (fused_left g.F.Files.left) c.args.self.now.node c.pack_refs-called.new.self (Asks PackRefs) (RestartedAs c.pack_refs-called.result) (TellsDevice c.pack_refs-called.result) _ honest (λ h. absurd (cc)) (c.pack_refs-called.ensures.answers honest)
      (packing g.F.Files.honest (λ s. g.F.Files.content s.files) (fused_failed g.F.Files.failed) (FusedCanFail g.F.Files.can_fail g.F.Files.left) (fused_left g.F.Files.left) c.args.self.now.node c.pack_refs-called.new.self c.pack_refs-called.result c.pack_refs-called.ensures.wear c.pack_refs-called.ensures.settles (c.pack_refs-called.ensures.kept honest) (c.pack_refs-called.ensures.looks honest)) c.restarted.ensures);
}
