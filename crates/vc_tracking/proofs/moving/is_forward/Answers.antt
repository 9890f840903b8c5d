use Rattle.std.proofs.Common.{[]}
use Rattle.vc_push.specs.Push.{CommandText}
use Rattle.vc_push_rules.proofs.VerdictLemmas.{never_missing}
use Rattle.vc_tracking.proofs.moving.is_forward.Goals as goal

-- its history is whole, and so no commit of it is absent
pub returns-in-Err-Missing-clause-forward : goal.returns-in-Err-Missing-clause-forward
returns-in-Err-Missing-clause-forward g c honest agrees known both =
    let objects = g.C.Objects.objects (g.C.Objects.state_of c.args.commits.now) in
    let later = rw c.in_ok-is_history_beyond.ensures.kept at (rw c.in-Err-Missing.field-0-is at (c.in-Err-Missing.ensures.refused honest)) in
    let told = later agrees in
    let command : CommandText = record { old = c.args.id.now; new = c.args.id.now; name = [] } in
    never_missing objects command both.0 c.in-Err-Missing.field-0-0 told.0 told.1

pub returns-in-Err-Store-clause-refused : goal.returns-in-Err-Store-clause-refused
returns-in-Err-Store-clause-refused g c honest agrees =
    let later = rw c.in_ok-is_history_beyond.ensures.kept at (rw c.in-Err-Store.field-0-is at (c.in-Err-Store.ensures.refused honest)) in
    later agrees
