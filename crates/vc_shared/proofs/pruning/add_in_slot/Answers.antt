use Rattle.vc_pruning.proofs.UnionLemmas.{added_all}
use Rattle.vc_shared.proofs.AddingLemmas.{adds_none, adds_some}
use Rattle.vc_shared.proofs.pruning.add_in_slot.Goals as goal

pub returns-in_default-clause-added : goal.returns-in_default-clause-added
returns-in_default-clause-added g c = λ honest. rw c.in_default.is (adds_none _ _)

pub returns-clause-added : goal.returns-clause-added
returns-clause-added g c = λ honest.
    rw c.in-Some.is (adds_some _ _ _ _ _ (rw (← c.deref.ensures.value) at (c.in_ok-names.ensures.needed honest)) (added_all _ _ _ c.in_ok-add_names.ensures.added))
