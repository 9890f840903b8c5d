use Rattle.std.proofs.Common.{[], ◌∷◌, ◌++◌, sym, ap, ◌∙◌, append_assoc, append-nil}
use Rattle.std.specs.FinMap.{entries}
use Rattle.std.proofs.lemmas.Map.Iter.{rest_more, rest_all}
use Rattle.vc_refs.proofs.PackedLemmas.{entries-packed_of}
use Rattle.vc_refs.proofs.packed.PackedRefs.into_vec.Goals as goal

pub loop-entry-init : goal.loop-entry-init
loop-entry-init c =
    ap (λ l. l ++ c.into_iter-entry-iterator.result) c.new-refs.ensures.items
    ∙ c.into_iter-entry-iterator.ensures.into_iter_gives.0
    ∙ sym (entries-packed_of c.self.inside.by_name c.into_iter-entry-iterator.ensures.into_iter_gives.5)
    ∙ ap entries c.self.view_is

pub loop-entry-preserved : goal.loop-entry-preserved
loop-entry-preserved c =
    let next = rest_more (λ p. p) _ _ _ c.in-Some.entry c.in-Some.is c.next.ensures.steps in
    ap (λ l. l ++ c.next.new.self) c.in_ok-push.ensures.items
    ∙ append_assoc c.loop-entry.refs.items (c.in-Some.entry ∷ []) c.next.new.self
    ∙ ap (λ l. c.loop-entry.refs.items ++ l) (sym next) ∙ c.loop-entry.invariant

pub returns : goal.returns
returns c =
    let none = rest_all (λ p. p) _ _ _ c.in-None.is c.next.ensures.steps in
    sym (append-nil c.loop-entry.refs.items) ∙ ap (λ l. c.loop-entry.refs.items ++ l) (sym none) ∙ c.loop-entry.invariant
