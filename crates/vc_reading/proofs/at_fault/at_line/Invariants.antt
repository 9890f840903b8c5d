use Rattle.std.proofs.Common.{◌≡◌, ◌++◌, take}
use Rattle.std.specs.Prelude.{codes}
use Rattle.std.specs.List.{flat_map}
use Rattle.vc_reading.specs.AtFault.{quoted_byte}
use Rattle.vc_reading.proofs.at_fault.at_line.Given as goal

abbrev pub invariant-loop-byte : goal.invariant-loop-byte
invariant-loop-byte l = l.line.items ≡ codes "vcs: at \"" ++ flat_map quoted_byte (take l.byte-index l.place)
