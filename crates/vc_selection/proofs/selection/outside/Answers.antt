use Rattle.vc_selection.proofs.selection.outside.Goals as goal

pub returns-clause-outside : goal.returns-clause-outside
returns-clause-outside c id =
    let differs = c.in_ok-ids.ensures.difference id in
    let excluded = c.in_ok-excluded.ensures id in
    (λ h. let d = differs.0 h in (d.0, λ r. d.1 (excluded.1 r)), λ h. differs.1 (h.0, λ at. h.1 (excluded.0 at)))
