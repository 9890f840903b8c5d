use Rattle.std.proofs.Common.{Ok, Err, refl, rules}
use Rattle.vc_history.proofs.GenerationLemmas.{agrees_where_none}
use Rattle.vc_history.specs.Numbering.{numbers}
use Rattle.vc_shared.proofs.RestartLemmas.{restart_answers}
use Rattle.vc_shared.proofs.shared.Shared.restart.Goals as goal

pub returns-in-Ok-clause-answers : goal.returns-in-Ok-clause-answers
returns-in-Ok-clause-answers g c = λ honest. rw (← c.self.view_is) (restart_answers _ _ _ _ _ _ (Ok tt) (c.in-Ok.ensures.opened honest) tt tt refl refl)

pub returns-clause-answers : goal.returns-clause-answers
returns-clause-answers g c = λ honest. rw (← c.self.view_is) (restart_answers _ _ _ _ _ _ (Err c.in-Err.fault) tt (c.in-Err.ensures.err honest) (c.in-Err.ensures.refused honest) refl refl)

pub invariant_of-self : goal.invariant_of-self
invariant_of-self g c = (search rules, λ honest. (agrees_where_none _ (numbers c.new.result) c.new.ensures.none, c.new-3.ensures.agrees _))

pub invariant_of-self-in-Err : goal.invariant_of-self-in-Err
invariant_of-self-in-Err g c = (search rules, λ honest. (agrees_where_none _ (numbers c.new.result) c.new.ensures.none, c.new-3.ensures.agrees _))

pub returns-in-Ok-clause-learnt : goal.returns-in-Ok-clause-learnt
returns-in-Ok-clause-learnt g c = record { none = c.new.ensures.none; due = search rules }

pub returns-clause-learnt : goal.returns-clause-learnt
returns-clause-learnt g c = record { none = c.new.ensures.none; due = search rules }
