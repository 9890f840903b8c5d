use Rattle.std.proofs.Common.{◌≡◌, map, take}
use Rattle.vc_push.specs.PushView.{commands_of}
use Rattle.vc_session.specs.Together.{change_of}
use Rattle.vc_session.proofs.updating_all.changes_of.Given as goal

abbrev pub invariant-loop-command : goal.invariant-loop-command
invariant-loop-command l = l.changes.items ≡ map change_of (commands_of (take l.command-index l.commands))
