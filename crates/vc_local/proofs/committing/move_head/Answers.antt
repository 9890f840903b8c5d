use Rattle.vc_local.proofs.CleanLemmas.{clean_head}
use Rattle.vc_local.proofs.ShownLemmas.{shown_head}
use Rattle.vc_local.proofs.committing.move_head.Goals as goal

pub returns-in_ok-set_head-in-Id-clause-moved : goal.returns-in_ok-set_head-in-Id-clause-moved
returns-in_ok-set_head-in-Id-clause-moved g c = λ honest.
    let is = shown_head _ _ _ (c.in_ok-set_head-in-Id.ensures.sets.only honest) (c.in_ok-set_head-in-Id.ensures.sets.refs honest) (c.in_ok-set_head-in-Id.ensures.sets.set honest) in
    rw c.in-Id.is is

pub returns-in_ok-set_head-in-Id-clause-clean : goal.returns-in_ok-set_head-in-Id-clause-clean
returns-in_ok-set_head-in-Id-clause-clean g c = λ honest. clean_head _ _ (c.in_ok-set_head-in-Id.ensures.sets.only honest)
