use Rattle.std.proofs.Common.{refl}
use Rattle.vc_model.specs.Clone.Task.{StartFetch}
use Rattle.vc_model.specs.CloneCall.CloneCall.{Command}
use Rattle.vc_model.specs.Order.Order.{Fetch}
use Rattle.vc_node.specs.CloneCalls.{SentAs}
use Rattle.vc_node.specs.CloneFaults.{TellsDevice}
use Rattle.vc_simulation.proofs.CloneLemmas.{exchange_called, fetching, finds_none, ordered}
use Rattle.vc_simulation.specs.Nodes.{seen_clone}
use Rattle.vc_simulation.proofs.world_clone.WorldClone.fetch.Goals as goal

pub returns : goal.returns
returns g c = record {
  answers = λ honest. ordered (seen_clone g.F.Files.content g.F.Files.can_fail g.F.Files.left) (λ r. Unit {0}) StartFetch Fetch _ c.args.self.now.node c.args.self.now.node c.start_fetch-called.new.self
      (finds_none g.F.Files.content g.F.Files.can_fail g.F.Files.left _ _ c.requires refl)
      (exchange_called g.F.Files.honest g.F.Files.content g.F.Files.failed g.F.Files.can_fail g.F.Files.left _ _ (Command StartFetch) (SentAs c.start_fetch-called.result) (TellsDevice c.start_fetch-called.result) _ honest (λ h. absurd (cc)) (c.start_fetch-called.ensures.answers honest)
      (fetching g.F.Files.honest g.F.Files.content g.F.Files.failed g.F.Files.can_fail g.F.Files.left _ _ _ c.start_fetch-called.result c.start_fetch-called.ensures.same c.start_fetch-called.ensures.refused c.start_fetch-called.ensures.settles.unchanged c.start_fetch-called.ensures.settles.up) c.sent.ensures) (λ s p. refl);
}
