use Rattle.std.proofs.Common.{◌≡◌, map, take}
use Rattle.std.specs.List.{All}
use Rattle.vc_sending.specs.Sending.{command_for}
use Rattle.vc_files.specs.Failures.{Wears}
use Rattle.vc_push.specs.PushView.{commands_of}
use Rattle.vc_refname.specs.RefName.{IsRefName}
use Rattle.vc_sending.proofs.sending.commands_for.Given as goal

abbrev pub invariant-loop-item : goal.invariant-loop-item
invariant-loop-item g l = record {
  commands : g.F.Files.honest → commands_of l.commands.items ≡ map (command_for (g.F.Files.content l.fn.files)) (take l.item-index l.items);
  legal : All (λ command. IsRefName command.name.items) l.commands.items;
  same : g.F.Files.content l.files ≡ g.F.Files.content l.fn.files;
  wear : Wears g.F.Files.failed g.F.Files.can_fail g.F.Files.left l.fn.files l.files ⊥;
}
