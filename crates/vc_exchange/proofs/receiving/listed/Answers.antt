use Rattle.std.proofs.Common.{rules, ◌≡◌, ◌∷◌, [], ◌++◌, List, append_assoc, sym, ap, ◌∙◌}
use Rattle.std.specs.BTreeMap.{IsOrdered}
use Rattle.std.proofs.lemmas.List.{append-nil}
use Rattle.vc_fetch.proofs.RefMaps.{entries-ref_ids, key_cmp}
use Rattle.vc_tracking.specs.Moving.{told_in}
use Rattle.vc_tracking.proofs.MovingLoops.{Item}
use Rattle.vc_exchange.proofs.receiving.listed.Goals as goal

pub loop-name-init : goal.loop-name-init
loop-name-init c =
    ap (λ (l : List Item). l ++ c.into_iter-name-iterator.result) c.new-listed.ensures.items ∙ c.into_iter-name-iterator.ensures.into_iter_gives.0

pub loop-name-preserved : goal.loop-name-preserved
loop-name-preserved c =
    let item : Item = (c.in-Some.name, c.in-Some.id) in
    ap (λ (l : List Item). l ++ c.next.new.self) c.in_ok-push.ensures.items
    ∙ append_assoc c.loop-name.listed.items (item ∷ []) c.next.new.self
    ∙ ap (λ (l : List Item). c.loop-name.listed.items ++ l) (sym c.in-Some.ensures.steps)
    ∙ c.loop-name.invariant

pub returns : goal.returns
returns c =
    let ordered : IsOrdered key_cmp c.args.refs = search rules in
    let whole : c.loop-name.listed.items ≡ c.args.refs.entries =
    sym (append-nil c.loop-name.listed.items) ∙ ap (λ (l : List Item). c.loop-name.listed.items ++ l) (sym c.in-None.ensures.steps.0) ∙ c.loop-name.invariant in
    ap told_in whole ∙ sym (entries-ref_ids c.args.refs ordered)
