use Rattle.std.proofs.Common.{rules}
use Rattle.vc_tracking.specs.Faults.{from_store}
use Rattle.vc_exchange.specs.Quarantined.{BlamesSeen}
use Rattle.vc_exchange.proofs.QuarantinedLemmas.{met_blames}
use Rattle.vc_exchange.proofs.quarantined.judge_quarantined.Goals as goal

pub returns-in_err-found-clause-refused : goal.returns-in_err-found-clause-refused
returns-in_err-found-clause-refused g c honest =
    let content = g.F.Files.content c.args.files.now in
    let e = c.in_err-found.field-0.0 in
    let told : BlamesSeen content c.args.wants.now (from_store e) = met_blames content c.args.wants.now _ e (c.in_err-found.ensures.refused honest) in
    search (rules, told)

pub returns-in-Err-clause-refused : goal.returns-in-Err-clause-refused
returns-in-Err-clause-refused g c honest = rw c.in-Err.is at (c.in_ok-found.ensures.first honest)

pub returns-in-Ok-clause-complete : goal.returns-in-Ok-clause-complete
returns-in-Ok-clause-complete g c honest whole = rw c.in-Ok.is at (c.in_ok-found.ensures.complete honest whole)

pub returns-in-Ok-clause-met : goal.returns-in-Ok-clause-met
returns-in-Ok-clause-met g c honest whole = rw c.in-Ok.is at (c.in_ok-found.ensures.met honest whole)
