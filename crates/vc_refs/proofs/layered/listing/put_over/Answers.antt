use Rattle.std.proofs.Common.{arith, rules, ◌≡◌, ◌+◌, ◌∷◌, ◌++◌, [], ℕ, List, take, sym, ap, ◌∙◌, subst}
use Rattle.std.specs.FinMap.{insert}
use Rattle.std.proofs.lemmas.List.{take_all, take_more}
use Rattle.vc_refs.specs.Packed.{PackedMap, PackedRef}
use Rattle.vc_refs.specs.Packing.{with_all}
use Rattle.vc_refs.specs.RefMap.{IsInRefs}
use Rattle.vc_refs.proofs.LayeredListingLemmas.{in_refs_at, with_all-push}
use Rattle.vc_refs.proofs.layered.listing.put_over.Goals as goal

pub insert-requires : goal.insert-requires
insert-requires c =
    let item : PackedRef = c.entry-item.result in
    let name : c.in_ok-name.name ≡ item.0 = search rules in
    subst IsInRefs (sym name) (in_refs_at c.args.loose.now c.loop-entry.entry-index item c.requires c.loop-entry-test.true c.entry-item.is)

pub loop-entry-preserved : goal.loop-entry-preserved
loop-entry-preserved c =
    let items : List PackedRef = c.args.loose.now in
    let i = c.loop-entry.entry-index in
    let item : PackedRef = c.entry-item.result in
    let name : c.in_ok-name.name ≡ item.0 = search rules in
    let next : take (i + 1) items ≡ take i items ++ item ∷ [] = take_more items i item c.loop-entry-test.true ∙ ap (λ (r : PackedRef). take i items ++ r ∷ []) (sym c.entry-item.is) in
    c.in_ok-insert.ensures.ok ∙ ap (λ (n : List ℕ). insert c.loop-entry.merged n item.1) name
    ∙ ap (λ (m : PackedMap). insert m item.0 item.1) c.loop-entry.invariant
    ∙ sym (with_all-push c.args.packed (take i items) item) ∙ ap (with_all c.args.packed) (sym next)

pub returns : goal.returns
returns c = c.loop-entry.invariant ∙ ap (with_all c.args.packed) (take_all c.loop-entry.entry-index c.args.loose.now (omega (arith, c.loop-entry-test.false)))
