use Rattle.std.proofs.Common.{rules, IsTrue}
use Rattle.vc_push.specs.PushView.{command_of}
use Rattle.vc_push_rules.proofs.VerdictLemmas.{never_missing}
use Rattle.vc_session.proofs.judging.history_reason.Goals as goal

pub returns-in-Err-Missing-clause-verdict : goal.returns-in-Err-Missing-clause-verdict
returns-in-Err-Missing-clause-verdict g c honest agrees known =
    let objects = g.C.Objects.objects (g.C.Objects.state_of c.args.commits.now) in
    let later = rw c.in_ok-is_history_beyond.ensures.kept at (rw c.in-Err-Missing.field-0-is at (c.in-Err-Missing.ensures.refused honest)) in
    let told = later agrees in
    let whole : IsTrue c.in_ok-is_history_beyond.field-0 = search rules in
    let history = (c.in_ok-is_history_beyond.ensures.history honest known).0 whole in
    absurd (never_missing objects (command_of c.args.command.now) history c.in-Err-Missing.field-0-0 told.0 told.1)
