use Rattle.std.proofs.Common.{[], refl}
use Rattle.vc_model.specs.Clone.Task.{Stage}
use Rattle.vc_model.specs.Order.Order.{StageFile}
use Rattle.vc_local.specs.Machine.{done_answer}
use Rattle.vc_local.specs.NodeFault.{TellsDevice}
use Rattle.vc_rules.specs.Git.{mode_number}
use Rattle.vc_simulation.proofs.CloneLemmas.{commanding, finds_none, local_order, may_if_sound}
use Rattle.vc_simulation.proofs.world_clone.WorldClone.stage.Goals as goal

pub returns : goal.returns
returns g c = record {
  answers = λ honest. local_order g.F.Files.honest g.F.Files.content g.F.Files.failed g.F.Files.can_fail g.F.Files.left (λ r. Unit {0}) c.args.self.now.node c.args.self.now.node c.add-called.new.self (Stage c.args.path.now (mode_number c.args.mode) c.args.content.now) (StageFile c.args.path.now (mode_number c.args.mode) c.args.content.now) (done_answer c.add-called.result) (TellsDevice c.add-called.result) c.done.result honest
      (finds_none g.F.Files.content g.F.Files.can_fail g.F.Files.left _ _ c.requires.up refl) (c.add-called.ensures.answers honest).held c.add-called.ensures.settles.awaits (commanding g.F.Files.honest g.F.Files.content g.F.Files.failed g.F.Files.can_fail g.F.Files.left _ _ _ c.add-called.result [] c.add-called.ensures.wear c.add-called.ensures.settles (c.add-called.ensures.clean honest) (may_if_sound (Stage c.args.path.now (mode_number c.args.mode) c.args.content.now) _ _ _ (c.add-called.ensures.looks honest))) c.done.ensures (λ s p. refl);
}
