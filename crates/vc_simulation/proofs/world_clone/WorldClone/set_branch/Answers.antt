use Rattle.std.proofs.Common.{[], Err, Ok, refl}
use Rattle.vc_format.specs.Git.{bytes_of_id}
use Rattle.vc_model.specs.Clone.Task.{SetBranch}
use Rattle.vc_model.specs.Order.Order.{BranchAt}
use Rattle.vc_local.specs.Machine.{done_answer}
use Rattle.vc_local.specs.NodeFault.{TellsDevice}
use Rattle.vc_simulation.proofs.CloneLemmas.{commanding, finding, sound_order, unread_order}
use Rattle.vc_simulation.specs.Values.{IsNoValue, IsValue}
use Rattle.vc_simulation.proofs.world_clone.WorldClone.set_branch.Goals as goal

pub returns-in-Err : goal.returns-in-Err
returns-in-Err g c = record { answers = λ honest. unread_order g.F.Files.content g.F.Files.can_fail g.F.Files.left (IsNoValue c.args.text.now) (BranchAt c.args.name.now c.args.text.now) c.value.result c.in-Err.end _ _ c.in-Err.is (c.value.ensures.err honest) (λ s k p. (Err k, p, refl)) }

pub returns : goal.returns
returns g c = record {
  answers = λ honest. sound_order g.F.Files.honest g.F.Files.content g.F.Files.failed g.F.Files.can_fail g.F.Files.left (IsValue c.args.text.now c.in-Ok.id) c.args.self.now.node c.value.new.self.node c.set_branch-called.new.self (SetBranch c.args.name.now c.in-Ok.id.0) (BranchAt c.args.name.now c.args.text.now) (done_answer c.set_branch-called.result) (TellsDevice c.set_branch-called.result) c.done.result honest
      (finding g.F.Files.content g.F.Files.can_fail g.F.Files.left (IsValue c.args.text.now) c.value.result c.in-Ok.id _ _ c.in-Ok.is (c.value.ensures.found honest))
      (c.set_branch-called.ensures.answers honest).held c.set_branch-called.ensures.settles.awaits (commanding g.F.Files.honest g.F.Files.content g.F.Files.failed g.F.Files.can_fail g.F.Files.left _ _ _ c.set_branch-called.result [] c.set_branch-called.ensures.wear c.set_branch-called.ensures.settles (c.set_branch-called.ensures.kept honest).clean (c.set_branch-called.ensures.looks honest)) c.done.ensures (λ s p. (Ok (bytes_of_id c.in-Ok.id), p, refl));
}
