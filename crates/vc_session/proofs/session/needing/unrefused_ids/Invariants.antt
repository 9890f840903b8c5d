use Rattle.std.proofs.Common.{◌≡◌, take}
use Rattle.vc_push.specs.PushView.{commands_of}
use Rattle.vc_session.specs.Needing.{unrefused_ids}
use Rattle.vc_session.proofs.session.needing.unrefused_ids.Given as goal

abbrev pub invariant-loop-i : goal.invariant-loop-i
invariant-loop-i l = l.ids.items ≡ unrefused_ids (commands_of (take l.i l.commands)) (take l.i l.verdicts)
