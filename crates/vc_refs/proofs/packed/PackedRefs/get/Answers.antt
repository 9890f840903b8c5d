use Rattle.std.proofs.Common.{rules}
use Rattle.vc_refs.proofs.PackedLemmas.{get-packed_of}
use Rattle.vc_refs.proofs.packed.PackedRefs.get.Goals as goal

pub returns : goal.returns
returns c = rw (← c.self.view_is, get-packed_of) (search rules)
