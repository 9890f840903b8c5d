use Rattle.std.proofs.Common.{[], map, rules, refl}
use Rattle.vc_events.specs.Events.{bytes_in}
use Rattle.vc_format.specs.Git.{bytes_of_id}
use Rattle.vc_model.specs.Clone.Task.{MakeCommit}
use Rattle.vc_model.specs.Order.Order.{CommitIndex}
use Rattle.vc_local.specs.Machine.{made_answer}
use Rattle.vc_local.specs.NodeFault.{TellsDevice}
use Rattle.vc_simulation.proofs.CloneLemmas.{commanding, finding, sound_order, unread_order}
use Rattle.vc_simulation.specs.Values.{AreIds, AreNoIds}
use Rattle.vc_simulation.proofs.world_clone.WorldClone.commit.Goals as goal

pub returns-in-Err : goal.returns-in-Err
returns-in-Err g c = record { answers = λ honest. unread_order g.F.Files.content g.F.Files.can_fail g.F.Files.left (AreNoIds c.args.parents.now) (CommitIndex (map bytes_in c.args.parents.now) c.args.author.now c.args.committer.now c.args.message.now) c.values.result c.in-Err.end _ _ c.in-Err.is (c.values.ensures.err honest) (λ s k p. (_, p, refl)) }

pub returns : goal.returns
returns g c = record {
  answers = λ honest. sound_order g.F.Files.honest g.F.Files.content g.F.Files.failed g.F.Files.can_fail g.F.Files.left (AreIds c.args.parents.now c.in-Ok.ids.items) c.args.self.now.node c.values.new.self.node c.commit-called.new.self
      (MakeCommit (map bytes_of_id c.deref.result.now) c.args.author.now c.args.committer.now c.args.message.now) (CommitIndex (map bytes_in c.args.parents.now) c.args.author.now c.args.committer.now c.args.message.now) (made_answer c.commit-called.result) (TellsDevice c.commit-called.result) c.made.result honest
      (finding g.F.Files.content g.F.Files.can_fail g.F.Files.left (λ ids. AreIds c.args.parents.now ids.items) c.values.result c.in-Ok.ids _ _ c.in-Ok.is (c.values.ensures.found honest))
      (c.commit-called.ensures.answers honest).held c.commit-called.ensures.settles.awaits (commanding g.F.Files.honest g.F.Files.content g.F.Files.failed g.F.Files.can_fail g.F.Files.left _ _ _ c.commit-called.result [] c.commit-called.ensures.wear c.commit-called.ensures.settles (c.commit-called.ensures.clean honest) (c.commit-called.ensures.looks honest)) c.made.ensures (λ s p. (_, p, search rules));
}
