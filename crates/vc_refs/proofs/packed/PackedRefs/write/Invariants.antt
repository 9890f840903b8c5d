use Rattle.std.proofs.Common.{◌≡◌, ◌++◌}
use Rattle.std.specs.List.{flat_map}
use Rattle.vc_refs.specs.Packed.{packed_text, ref_line}
use Rattle.vc_refs.proofs.packed.PackedRefs.write.Given as goal

-- the text so far and that of what is left are the whole text
abbrev pub invariant-loop-name : goal.invariant-loop-name
invariant-loop-name l = l.text.items ++ flat_map ref_line l.name-iterator ≡ packed_text l.self
