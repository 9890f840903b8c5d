use Rattle.std.proofs.Common.{◌≡◌, true, subst, sym, ap, ◌∙◌, List, ℕ}
use Rattle.std.specs.FinMap as names
use Rattle.std.proofs.lemmas.Bool.{and_from}
use Rattle.vc_object.specs.ObjectId.{is_id}
use Rattle.vc_object.specs.declared.id.ObjectId.{ObjectId}
use Rattle.vc_refs.specs.Packed.{IsPackedMap, PackedMap, is_packed_name}
use Rattle.vc_refs.specs.PackedView.{packed_of}
use Rattle.vc_refs.proofs.PackedLemmas.{packed_of-set, insert-IsPackedMap}
use Rattle.vc_refs.proofs.packed.PackedRefs.insert.Goals as goal

pub invariant_of-self-2 : goal.invariant_of-self-2
invariant_of-self-2 c =
    let set = packed_of-set c.self.inside.by_name c.insert.new.self c.legal-name.result c.named-id.result c.in_ok-insert.ensures.updates in
    let valid : is_packed_name c.legal-name.result ≡ true = ap is_packed_name c.legal-name.ensures.same ∙ c.legal-name.ensures.valid in
    subst IsPackedMap (sym set) (insert-IsPackedMap c.legal-name.result c.named-id.result (and_from _ _ valid (ap is_id c.named-id.ensures.same ∙ c.named-id.ensures.valid)) (packed_of c.self.inside.by_name) c.self.invariant)

pub returns-clause-ok : goal.returns-clause-ok
returns-clause-ok c =
    let set = packed_of-set c.self.inside.by_name c.insert.new.self c.legal-name.result c.named-id.result c.in_ok-insert.ensures.updates in
    set ∙ ap (λ (m : PackedMap). names.insert m c.legal-name.result c.named-id.result) c.self.view_is
    ∙ ap (λ (k : List ℕ). names.insert c.args.self.now k c.named-id.result) c.legal-name.ensures.same
    ∙ ap (λ (i : ObjectId). names.insert c.args.self.now c.args.name i) c.named-id.ensures.same
