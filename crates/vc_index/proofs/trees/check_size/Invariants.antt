use Rattle.std.proofs.Common.{◌≡◌, ◌≤◌, take}
use Rattle.vc_index.specs.Part.{parts_size}
use Rattle.vc_index.proofs.trees.check_size.Given as goal

abbrev pub invariant-loop-part : goal.invariant-loop-part
invariant-loop-part l = record { is : l.size ≡ parts_size (take l.part-index l.parts); fits : l.size ≤ 16777216 }
