use Rattle.std.proofs.Common.{◌≡◌, take}
use Rattle.std.specs.Map.{values_of}
use Rattle.vc_pack.proofs.values.ids_of.Given as goal

abbrev pub invariant-loop-id : goal.invariant-loop-id
invariant-loop-id l = l.ids.items ≡ values_of (take l.id-index l.listed)
