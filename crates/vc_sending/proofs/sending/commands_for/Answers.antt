use Rattle.std.proofs.Common.{rules, ◌≡◌, ◌++◌, ◌∷◌, []}
use Rattle.std.proofs.lemmas.List.Elements.{All-push}
use Rattle.std.specs.List.{All}
use Rattle.vc_sending.proofs.SendingLemmas.{commands_more}
use Rattle.vc_sending.specs.Sending.{command_for}
use Rattle.vc_push.specs.PushView.{command_of}
use Rattle.vc_push.specs.declared.command.Command.{Command}
use Rattle.vc_refname.specs.RefName.{IsRefName}
use Rattle.vc_sending.proofs.sending.commands_for.Goals as goal

pub loop-item-preserved : goal.loop-item-preserved
loop-item-preserved g c =
    let content = g.F.Files.content c.args.files.now in
    let before = c.loop-item.commands.items in
    let command = c.in_ok-command.command in
    let pushed : c.push.new.self.items ≡ before ++ command ∷ [] = search rules in
    let legal : All (λ (k : Command). IsRefName k.name.items) c.push.new.self.items =
    rw pushed (All-push (λ (k : Command). IsRefName k.name.items) before command c.loop-item.invariant.legal c.in_ok-command.ensures.legal) in
    record {
      commands = λ honest.
          let one : command_of command ≡ command_for content c.item-item.result = rw c.loop-item.invariant.same at (c.in_ok-command.ensures.command honest) in
          commands_more content c.args.items.now c.loop-item.item-index c.item-item.result before c.push.new.self.items command c.loop-item-test.true c.item-item.is pushed one (c.loop-item.invariant.commands honest);
      legal = legal;
      same = search rules;
      wear = search rules;
    }
