use Rattle.std.proofs.Common.{◌≡◌, take}
use Rattle.vc_refs.specs.Packing.{with_all}
use Rattle.vc_refs.proofs.layered.listing.put_over.Given as goal

-- those so far are put over the packed ones
abbrev pub invariant-loop-entry : goal.invariant-loop-entry
invariant-loop-entry l = l.merged ≡ with_all l.fn.packed (take l.entry-index l.loose)
