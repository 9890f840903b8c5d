use Rattle.std.proofs.Common.{◌≡◌, take}
use Rattle.std.specs.List.{flat_map}
use Rattle.vc_reading.specs.Shown.{ref_line}
use Rattle.vc_reading.proofs.show_ref.ref_lines.Given as goal

abbrev pub invariant-loop-name : goal.invariant-loop-name
invariant-loop-name l = l.lines.items ≡ flat_map ref_line (take l.name-index l.listed)
