use Rattle.std.proofs.Common.{[], Err, Ok, refl}
use Rattle.vc_format.specs.Git.{bytes_of_id}
use Rattle.vc_model.specs.Clone.Task.{LoadTree}
use Rattle.vc_model.specs.Order.Order.{LoadIndex}
use Rattle.vc_local.specs.Machine.{done_answer}
use Rattle.vc_local.specs.NodeFault.{TellsDevice}
use Rattle.vc_simulation.proofs.CloneLemmas.{commanding, finding, local_order, may_if_sound, unread_order}
use Rattle.vc_simulation.specs.Values.{IsNoValue, IsValue}
use Rattle.vc_simulation.proofs.world_clone.WorldClone.load.Goals as goal

pub returns-in-Err : goal.returns-in-Err
returns-in-Err g c = record { answers = λ honest. unread_order g.F.Files.content g.F.Files.can_fail g.F.Files.left (IsNoValue c.args.text.now) (LoadIndex c.args.text.now) c.value.result c.in-Err.end _ _ c.in-Err.is (c.value.ensures.err honest) (λ s k p. (Err k, p, refl)) }

pub returns : goal.returns
returns g c = record {
  answers = λ honest. local_order g.F.Files.honest g.F.Files.content g.F.Files.failed g.F.Files.can_fail g.F.Files.left (IsValue c.args.text.now c.in-Ok.id) c.args.self.now.node c.value.new.self.node c.load_tree-called.new.self (LoadTree c.in-Ok.id.0) (LoadIndex c.args.text.now) (done_answer c.load_tree-called.result) (TellsDevice c.load_tree-called.result) c.done.result honest
      (finding g.F.Files.content g.F.Files.can_fail g.F.Files.left (IsValue c.args.text.now) c.value.result c.in-Ok.id _ _ c.in-Ok.is (c.value.ensures.found honest))
      (c.load_tree-called.ensures.answers honest).held c.load_tree-called.ensures.settles.awaits (commanding g.F.Files.honest g.F.Files.content g.F.Files.failed g.F.Files.can_fail g.F.Files.left _ _ _ c.load_tree-called.result [] c.load_tree-called.ensures.wear c.load_tree-called.ensures.settles (c.load_tree-called.ensures.kept honest).clean (may_if_sound (LoadTree c.in-Ok.id.0) _ _ _ (c.load_tree-called.ensures.looks honest))) c.done.ensures (λ s p. (Ok (bytes_of_id c.in-Ok.id), p, refl));
}
