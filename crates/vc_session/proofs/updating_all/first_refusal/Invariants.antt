use Rattle.std.proofs.Common.{◌≡◌, true, take}
use Rattle.vc_push_rules.specs.Turn.{all_pass}
use Rattle.vc_session.proofs.updating_all.first_refusal.Given as goal

-- those so far pass
abbrev pub invariant-loop-i : goal.invariant-loop-i
invariant-loop-i l = all_pass (take l.i l.founds) ≡ true
