use Rattle.std.proofs.Common.{◌≡◌, length, take}
use Rattle.vc_history.specs.Generation.{Agrees}
use Rattle.vc_history.specs.Numbering.{numbers}
use Rattle.vc_files.specs.Failures.{Wears}
use Rattle.vc_object.specs.ObjectMap.{parents_in}
use Rattle.vc_push.specs.PushView.{commands_of}
use Rattle.vc_quarantine.specs.Known.{AreWhole}
use Rattle.vc_push_rules.specs.Session.{MayBeSetWhere}
use Rattle.vc_push_rules.specs.Steps.{ChecksAll}
use Rattle.vc_session.proofs.checking.check_all.Given as goal

abbrev pub invariant-loop-i : goal.invariant-loop-i
invariant-loop-i g l = record {
  kept : g.C.Objects.state_of l.commits ≡ g.C.Objects.state_of l.initial.commits;
  wear : Wears g.C.Objects.failed g.C.Objects.can_fail g.C.Objects.left l.initial.commits l.commits ⊥;
  known : g.C.Objects.is_honest → AreWhole (g.C.Objects.objects (g.C.Objects.state_of l.initial.commits)) l.initial.known → AreWhole (g.C.Objects.objects (g.C.Objects.state_of l.initial.commits)) l.known;
  checks : g.C.Objects.is_honest → Agrees (parents_in (g.C.Objects.objects (g.C.Objects.state_of l.initial.commits))) (numbers l.generations) → AreWhole (g.C.Objects.objects (g.C.Objects.state_of l.initial.commits)) l.initial.known → ChecksAll (g.C.Objects.objects (g.C.Objects.state_of l.initial.commits)) (commands_of (take l.i l.commands)) (take l.i l.verdicts) l.after.items;
  legal : MayBeSetWhere (commands_of (take l.i l.commands)) l.after.items;
  count : length l.after.items ≡ l.i;
}
