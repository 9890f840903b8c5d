use Rattle.std.proofs.Common.{◌++◌, subst, sym, ap, ◌∙◌}
use Rattle.std.specs.List.{flat_map}
use Rattle.vc_refs.specs.Packed.{IsPackedMap, packed_text, ref_line}
use Rattle.vc_refs.proofs.PackedLemmas.{entries-packed_of}
use Rattle.vc_refs.proofs.PackedTextLemmas.{written_refs_are_read}
use Rattle.vc_refs.proofs.packed.PackedRefs.write.Goals as goal

pub loop-name-init : goal.loop-name-init
loop-name-init c =
    ap (λ t. t ++ flat_map ref_line c.into_iter-name-iterator.result) c.new-text.ensures.items
    ∙ ap (flat_map ref_line) (c.into_iter-name-iterator.ensures.into_iter_gives.0)
    ∙ ap (flat_map ref_line) (sym (entries-packed_of c.self.inside.by_name c.into_iter-name-iterator.ensures.into_iter_gives.5))
    ∙ ap packed_text c.self.view_is

pub returns-in_err-push_line-clause-written_refs_are_read : goal.returns-in_err-push_line-clause-written_refs_are_read
returns-in_err-push_line-clause-written_refs_are_read c = λ map. written_refs_are_read c.args.self.now (subst IsPackedMap c.self.view_is c.self.invariant) map

pub returns-clause-written_refs_are_read : goal.returns-clause-written_refs_are_read
returns-clause-written_refs_are_read c = λ map. written_refs_are_read c.args.self.now (subst IsPackedMap c.self.view_is c.self.invariant) map
