use Rattle.std.proofs.Common.{subst, sym, ap, ◌∙◌}
use Rattle.std.specs.FinMap as names
use Rattle.vc_refs.specs.Packed.{IsPackedMap}
use Rattle.vc_refs.proofs.PackedLemmas.{packed_of-unset, remove-IsPackedMap}
use Rattle.vc_refs.proofs.packed.PackedRefs.remove.Goals as goal

pub invariant_of-self : goal.invariant_of-self
invariant_of-self c = subst IsPackedMap (sym (packed_of-unset c.self.inside.by_name c.remove.new.self c.args.name.now c.remove.ensures.updates)) (remove-IsPackedMap _ c.args.name.now c.self.invariant)

pub returns : goal.returns
returns c = packed_of-unset c.self.inside.by_name c.remove.new.self c.args.name.now c.remove.ensures.updates ∙ ap (λ m. names.remove m c.args.name.now) c.self.view_is
