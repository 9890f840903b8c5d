use Rattle.std.proofs.Common.{Ok, Err, refl, rules}
use Rattle.vc_history.proofs.GenerationLemmas.{agrees_where_none}
use Rattle.vc_history.specs.Numbering.{numbers}
use Rattle.vc_local.proofs.EmptyingLemmas.{opened_empty}
use Rattle.vc_node.proofs.RestartLemmas.{restart_answers}
use Rattle.vc_node.proofs.node.CloneNode.restart.Goals as goal

pub returns-in-Ok-clause-answers : goal.returns-in-Ok-clause-answers
returns-in-Ok-clause-answers g c = λ honest. rw (← c.self.view_is) (restart_answers _ _ _ _ _ _ (Ok tt) (c.in-Ok.ensures.opened honest) tt tt refl refl)

pub returns-in-Err-clause-answers : goal.returns-in-Err-clause-answers
returns-in-Err-clause-answers g c = λ honest. rw (← c.self.view_is) (restart_answers _ _ _ _ _ _ (Err c.in-Err.fault) tt (c.in-Err.ensures.err honest) (c.in-Err.ensures.refused honest) refl refl)

pub returns-in-Ok-clause-empty : goal.returns-in-Ok-clause-empty
returns-in-Ok-clause-empty g c = λ honest. opened_empty _ _ (c.in-Ok.ensures.opened honest)

pub invariant_of-self : goal.invariant_of-self
invariant_of-self g c = λ honest. ((c.new.ensures.agrees _, agrees_where_none _ (numbers c.new-2.result) c.new-2.ensures.none), c.in-Ok.ensures.spelled honest)

pub invariant_of-self-in-Err : goal.invariant_of-self-in-Err
invariant_of-self-in-Err g c = λ honest. ((c.new.ensures.agrees _, agrees_where_none _ (numbers c.new-2.result) c.new-2.ensures.none), tt)

pub returns-in-Ok-clause-fresh : goal.returns-in-Ok-clause-fresh
returns-in-Ok-clause-fresh g c = (search rules, record { none = c.new-2.ensures.none; due = search rules })

pub returns-in-Err-clause-fresh : goal.returns-in-Err-clause-fresh
returns-in-Err-clause-fresh g c = (search rules, record { none = c.new-2.ensures.none; due = search rules })
