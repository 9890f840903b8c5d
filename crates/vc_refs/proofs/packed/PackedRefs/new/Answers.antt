use Rattle.std.proofs.Common.{subst, sym}
use Rattle.vc_refs.specs.Packed.{IsPackedMap}
use Rattle.vc_refs.proofs.PackedLemmas.{packed_of-new, empty-IsPackedMap}
use Rattle.vc_refs.proofs.packed.PackedRefs.new.Goals as goal

pub invariant_of-result : goal.invariant_of-result
invariant_of-result c = subst IsPackedMap (sym (packed_of-new c.new.result c.new.ensures.empty)) empty-IsPackedMap
