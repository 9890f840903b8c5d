use Rattle.std.proofs.Common.{◌≡◌, [], length, take}
use Rattle.std.specs.FinMap as names
use Rattle.vc_push.specs.PushView.{commands_of}
use Rattle.vc_push_rules.specs.Turn.{JudgesInTurn}
use Rattle.vc_refs.specs.Packing.{IsMapOf}
use Rattle.vc_session.proofs.TurnLemmas.{refs_in_turn}
use Rattle.vc_session.proofs.updating_all.judge_in_turn.Given as goal

-- those so far are judged, and the refs are as they leave them
abbrev pub invariant-loop-i : goal.invariant-loop-i
invariant-loop-i l = record {
  judged : JudgesInTurn (names.get l.fn.refs) [] (commands_of (take l.i l.commands)) l.founds.items;
  left : IsMapOf (refs_in_turn (names.get l.fn.refs) (commands_of (take l.i l.commands)) l.founds.items) l.left;
  count : length l.founds.items ≡ l.i;
}
