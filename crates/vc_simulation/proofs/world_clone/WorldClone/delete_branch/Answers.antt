use Rattle.std.proofs.Common.{refl}
use Rattle.vc_model.specs.Clone.Task.{DeleteBranch}
use Rattle.vc_model.specs.Order.Order.{DropBranch}
use Rattle.vc_local.specs.Machine.{done_answer}
use Rattle.vc_local.specs.NodeFault.{TellsDevice}
use Rattle.vc_simulation.proofs.CloneLemmas.{commanding, finds_none, local_order, may_if_sound}
use Rattle.vc_simulation.proofs.world_clone.WorldClone.delete_branch.Goals as goal

pub returns : goal.returns
returns g c = record {
  answers = λ honest. local_order g.F.Files.honest g.F.Files.content g.F.Files.failed g.F.Files.can_fail g.F.Files.left (λ r. Unit {0}) c.args.self.now.node c.args.self.now.node c.delete_branch-called.new.self (DeleteBranch c.args.name.now) (DropBranch c.args.name.now) (done_answer c.delete_branch-called.result) (TellsDevice c.delete_branch-called.result) c.done.result honest
      (finds_none g.F.Files.content g.F.Files.can_fail g.F.Files.left _ _ c.requires.up refl) (c.delete_branch-called.ensures.answers honest).held c.delete_branch-called.ensures.settles.awaits (commanding g.F.Files.honest g.F.Files.content g.F.Files.failed g.F.Files.can_fail g.F.Files.left _ _ _ c.delete_branch-called.result c.args.name.now c.delete_branch-called.ensures.wear c.delete_branch-called.ensures.settles (c.delete_branch-called.ensures.clean honest) (may_if_sound (DeleteBranch c.args.name.now) _ _ _ (c.delete_branch-called.ensures.looks honest))) c.done.ensures (λ s p. refl);
}
