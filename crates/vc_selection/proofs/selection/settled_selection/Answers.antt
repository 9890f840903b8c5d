use Rattle.std.proofs.Common.{inl, inr, ⊎_elim, rules, sym, subst, Contains, IsTrue}
use Rattle.vc_selection.proofs.selection.settled_selection.Goals as goal

pub returns-clause-outside : goal.returns-clause-outside
returns-clause-outside c id =
    let differs = c.in_ok-ids.ensures.difference id in
    let excluded = c.in_ok-below.ensures id in
    (λ h. let d = differs.0 h in (d.0, λ r. d.1 (excluded.1 r)), λ h. differs.1 (h.0, λ at. h.1 (excluded.0 at)))

pub returns-clause-settled : goal.returns-clause-settled
returns-clause-settled c y way =
    let all_are : IsTrue c.each_is_among.result = search rules in
    let at = (c.in_ok-included.ensures y).1 way in
    ⊎_elim inl (λ under. inr ((c.in_ok-below.ensures y).0 under)) (c.each_is_among.ensures all_are y (subst (λ l. Contains l y) (sym c.as_slice.ensures.keys) at))
