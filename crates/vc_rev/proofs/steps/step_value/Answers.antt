use Rattle.vc_rev.proofs.steps.step_value.Goals as goal

pub returns-in-Parent-clause-refused : goal.returns-in-Parent-clause-refused
returns-in-Parent-clause-refused g c = rw c.in-Parent.is c.pick_from.ensures.refused

pub returns-in-Peel-clause-refused : goal.returns-in-Peel-clause-refused
returns-in-Peel-clause-refused g c = rw c.in-Peel.is c.pick_from-in-Peel.ensures.refused
