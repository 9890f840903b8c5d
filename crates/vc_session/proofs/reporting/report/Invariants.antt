use Rattle.std.proofs.Common.{◌≡◌, false, map, take}
use Rattle.std.specs.List.{list_any}
use Rattle.vc_push.specs.PushView.{commands_of}
use Rattle.vc_push.specs.ReportView.{bytes_of, told_of}
use Rattle.vc_push_rules.specs.Session.{is_passing}
use Rattle.vc_push_rules.specs.Steps.{TellsAll, unpack_of}
use Rattle.vc_session.proofs.reporting.report.Given as goal

abbrev pub invariant-loop-i : goal.invariant-loop-i
invariant-loop-i l = record {
  unpack : bytes_of l.unpack ≡ unpack_of l.fn.fault;
  told : list_any is_passing l.verdicts ≡ false → TellsAll (take l.i (commands_of l.commands)) (take l.i l.verdicts) (map told_of l.all.items);
}
