use Rattle.std.proofs.Common.{[], refl}
use Rattle.vc_model.specs.Clone.Task.{Write}
use Rattle.vc_model.specs.Order.Order.{StoreObject}
use Rattle.vc_local.specs.Machine.{made_answer}
use Rattle.vc_local.specs.NodeFault.{TellsDevice}
use Rattle.vc_rules.specs.Git.{machine_object}
use Rattle.vc_simulation.proofs.CloneLemmas.{commanding, finds_none, local_order, may_if_sound}
use Rattle.vc_simulation.proofs.world_clone.WorldClone.write.Goals as goal

pub returns : goal.returns
returns g c = record {
  answers = λ honest. local_order g.F.Files.honest g.F.Files.content g.F.Files.failed g.F.Files.can_fail g.F.Files.left (λ r. Unit {0}) c.args.self.now.node c.args.self.now.node c.write-called.new.self (Write (machine_object c.args.kind c.args.body.now)) (StoreObject (machine_object c.args.kind c.args.body.now)) (made_answer c.write-called.result) (TellsDevice c.write-called.result) c.made.result honest
      (finds_none g.F.Files.content g.F.Files.can_fail g.F.Files.left _ _ c.requires refl) (c.write-called.ensures.answers honest).held c.write-called.ensures.settles.awaits (commanding g.F.Files.honest g.F.Files.content g.F.Files.failed g.F.Files.can_fail g.F.Files.left _ _ _ c.write-called.result [] c.write-called.ensures.wear c.write-called.ensures.settles (c.write-called.ensures.kept honest).clean (may_if_sound (Write (machine_object c.args.kind c.args.body.now)) _ _ _ (c.write-called.ensures.looks honest))) c.made.ensures (λ s p. refl);
}
