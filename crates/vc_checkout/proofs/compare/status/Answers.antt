use Rattle.vc_checkout.proofs.compare.status.Goals as goal

pub returns-clause-status : goal.returns-clause-status
returns-clause-status g c = λ honest files. (c.in_ok-head.head, c.in_ok-head.ensures.index files, c.in_ok-changes.ensures.status honest)
