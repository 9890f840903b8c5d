use Rattle.std.proofs.Common.{rules}
use Rattle.vc_quarantine.proofs.WearLemmas.{wears_both}
use Rattle.vc_tracking.proofs.learning.learn_known.Goals as goal

pub returns-in_err-known-clause-wear : goal.returns-in_err-known-clause-wear
returns-in_err-known-clause-wear g c = wears_both c.in_ok-learn_all.ensures.wear c.in_err-known.ensures.wear (search rules)

pub returns-clause-wear : goal.returns-clause-wear
returns-clause-wear g c = wears_both c.in_ok-learn_all.ensures.wear c.in_ok-known.ensures.wear (search rules)

pub returns-clause-whole : goal.returns-clause-whole
returns-clause-whole g c = λ honest. rw c.in_ok-learn_all.ensures.same at (c.in_ok-known.ensures.whole honest)

pub returns-clause-learnt : goal.returns-clause-learnt
returns-clause-learnt g c = λ honest agrees. ((rw c.deref.ensures.value at c.in_ok-learn_all.ensures.learnt) honest agrees, c.clear.ensures.items)
