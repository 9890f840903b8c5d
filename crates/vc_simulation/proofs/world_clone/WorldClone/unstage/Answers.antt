use Rattle.std.proofs.Common.{[], refl}
use Rattle.vc_model.specs.Clone.Task.{Unstage}
use Rattle.vc_model.specs.Order.Order.{UnstageFile}
use Rattle.vc_local.specs.Machine.{done_answer}
use Rattle.vc_local.specs.NodeFault.{TellsDevice}
use Rattle.vc_simulation.proofs.CloneLemmas.{commanding, finds_none, local_order, may_if_sound}
use Rattle.vc_simulation.proofs.world_clone.WorldClone.unstage.Goals as goal

pub returns : goal.returns
returns g c = record {
  answers = λ honest. local_order g.F.Files.honest g.F.Files.content g.F.Files.failed g.F.Files.can_fail g.F.Files.left (λ r. Unit {0}) c.args.self.now.node c.args.self.now.node c.unstage-called.new.self (Unstage c.args.path.now) (UnstageFile c.args.path.now) (done_answer c.unstage-called.result) (TellsDevice c.unstage-called.result) c.done.result honest
      (finds_none g.F.Files.content g.F.Files.can_fail g.F.Files.left _ _ c.requires refl) (c.unstage-called.ensures.answers honest).held c.unstage-called.ensures.settles.awaits (commanding g.F.Files.honest g.F.Files.content g.F.Files.failed g.F.Files.can_fail g.F.Files.left _ _ _ c.unstage-called.result [] c.unstage-called.ensures.wear c.unstage-called.ensures.settles (c.unstage-called.ensures.kept honest).clean (may_if_sound (Unstage c.args.path.now) _ _ _ (c.unstage-called.ensures.looks honest))) c.done.ensures (λ s p. refl);
}
