use Rattle.std.proofs.Common.{◌≡◌, ◌++◌, take}
use Rattle.vc_push.specs.PushView.{commands_of}
use Rattle.vc_session.specs.Learning.{tips_of}
use Rattle.vc_session.proofs.tips.add_tips.Given as goal

abbrev pub invariant-loop-i : goal.invariant-loop-i
invariant-loop-i l = l.tips.items ≡ l.initial.tips.items ++ tips_of (commands_of (take l.i l.commands)) (take l.i l.verdicts)
