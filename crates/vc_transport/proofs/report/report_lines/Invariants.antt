use Rattle.std.proofs.Common.{◌≡◌, map, take}
use Rattle.std.specs.List.{flat_map}
use Rattle.vc_push.specs.ReportView.{told_of}
use Rattle.vc_transport.specs.Printed.{told_line}
use Rattle.vc_transport.proofs.report.report_lines.Given as goal

abbrev pub invariant-loop-told : goal.invariant-loop-told
invariant-loop-told l = l.text.items ≡ flat_map told_line (map told_of (take l.told-index l.told-items))
