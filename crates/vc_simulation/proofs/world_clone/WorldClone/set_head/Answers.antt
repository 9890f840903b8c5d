use Rattle.std.proofs.Common.{◌≡◌, [], rules, refl, subst}
use Rattle.vc_model.specs.Clone.Task.{MoveHead}
use Rattle.vc_model.specs.Order.Order.{HeadOn}
use Rattle.vc_model.specs.Refs.Head.{OnBranch}
use Rattle.vc_files.specs.Failures.{Wears}
use Rattle.vc_local.specs.Machine.{MayWriteIfSoundOr, done_answer}
use Rattle.vc_local.specs.NodeFault.{TellsDevice}
use Rattle.vc_simulation.proofs.CloneLemmas.{commanding, finds_none, halted_order, sound_order}
use Rattle.vc_simulation.proofs.world_clone.WorldClone.set_head.Goals as goal

pub returns-in_default : goal.returns-in_default
returns-in_default g c = record { answers = λ honest. halted_order g.F.Files.content g.F.Files.can_fail g.F.Files.left (HeadOn c.args.name.now) _ _ _ c.requires.up c.halt.ensures.up c.halt.ensures.files c.halt.ensures.awaits c.halt.ensures.end }

pub returns : goal.returns
returns g c = record {
  answers = λ honest. let same : c.in-Ok.branch ≡ c.args.name.now = search rules in sound_order g.F.Files.honest g.F.Files.content g.F.Files.failed g.F.Files.can_fail g.F.Files.left (λ r. Unit {0}) c.args.self.now.node c.args.self.now.node c.set_head-called.new.self (MoveHead (OnBranch c.args.name.now)) (HeadOn c.args.name.now) (done_answer c.set_head-called.result) (TellsDevice c.set_head-called.result) c.done.result honest
      (finds_none g.F.Files.content g.F.Files.can_fail g.F.Files.left _ _ c.requires.up refl)
      (search rules) c.set_head-called.ensures.settles.awaits (commanding g.F.Files.honest g.F.Files.content g.F.Files.failed g.F.Files.can_fail g.F.Files.left _ _ _ c.set_head-called.result [] c.set_head-called.ensures.wear c.set_head-called.ensures.settles (c.set_head-called.ensures.kept honest).clean (subst (λ n. MayWriteIfSoundOr (MoveHead (OnBranch n)) c.args.self.now.node.is_up (g.F.Files.content c.args.self.now.node.files) (Wears g.F.Files.failed g.F.Files.can_fail g.F.Files.left c.args.self.now.node.files c.set_head-called.new.self.files (TellsDevice c.set_head-called.result))) same (c.set_head-called.ensures.looks honest))) c.done.ensures (λ s p. refl);
}
