use Rattle.std.proofs.Common.{◌≡◌, take}
use Rattle.std.specs.List.{flat_map}
use Rattle.vc_cli.specs.Printed.{id_line}
use Rattle.vc_cli.proofs.output.id_lines.Given as goal

abbrev pub invariant-loop-id : goal.invariant-loop-id
invariant-loop-id l = l.text.items ≡ flat_map id_line (take l.id-index l.ids)
