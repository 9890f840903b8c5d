use Rattle.std.proofs.Common.{rules}
use Rattle.vc_history.proofs.GenerationLemmas.{agrees_where_none}
use Rattle.vc_history.specs.Numbering.{numbers}
use Rattle.vc_local.proofs.EmptyingLemmas.{opened_holds}
use Rattle.vc_local.proofs.OpeningFaults.{only_faults}
use Rattle.vc_node.proofs.node.CloneNode.open.Goals as goal

pub returns-in-Ok-clause-opens : goal.returns-in-Ok-clause-opens
returns-in-Ok-clause-opens g c = λ honest r can. opened_holds _ _ r (c.in-Ok.ensures.opened honest) can

pub returns-in-Err-clause-only : goal.returns-in-Err-clause-only
returns-in-Err-clause-only g c = λ honest r can. only_faults _ r can _ (c.in-Err.ensures.refused honest)

pub invariant_of-result : goal.invariant_of-result
invariant_of-result g c = λ honest. ((c.new.ensures.agrees _, agrees_where_none _ (numbers c.new-in-Ok.result) c.new-in-Ok.ensures.none), c.in-Ok.ensures.spelled honest)

pub returns-in-Ok-clause-fresh : goal.returns-in-Ok-clause-fresh
returns-in-Ok-clause-fresh g c = record { up = search rules; awaits = search rules; learnt = record { none = c.new-in-Ok.ensures.none; due = search rules } }
