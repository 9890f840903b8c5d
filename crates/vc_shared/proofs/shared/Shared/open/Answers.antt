use Rattle.std.proofs.Common.{rules}
use Rattle.vc_history.proofs.GenerationLemmas.{agrees_where_none}
use Rattle.vc_history.specs.Numbering.{numbers}
use Rattle.vc_local.proofs.EmptyingLemmas.{openable_kept}
use Rattle.vc_local.proofs.OpeningFaults.{only_faults}
use Rattle.vc_shared.proofs.OpeningLemmas.{held_opened}
use Rattle.vc_shared.proofs.shared.Shared.open.Goals as goal

pub returns-in-Ok-clause-opens : goal.returns-in-Ok-clause-opens
returns-in-Ok-clause-opens g c = λ honest r can. held_opened _ _ r (c.in-Ok.ensures.opened honest) can

pub returns-clause-err : goal.returns-clause-err
returns-clause-err g c = λ honest r can. openable_kept _ _ (c.in-Err.ensures.err honest) r can

pub returns-clause-only : goal.returns-clause-only
returns-clause-only g c = λ honest r can. only_faults _ r can _ (c.in-Err.ensures.refused honest)

pub invariant_of-result : goal.invariant_of-result
invariant_of-result g c = (search rules, λ honest. (agrees_where_none _ (numbers c.new.result) c.new.ensures.none, c.new-in-Ok-2.ensures.agrees _))

pub returns-in-Ok-clause-fresh : goal.returns-in-Ok-clause-fresh
returns-in-Ok-clause-fresh g c = record { free = search rules; learnt = record { none = c.new.ensures.none; due = search rules } }
