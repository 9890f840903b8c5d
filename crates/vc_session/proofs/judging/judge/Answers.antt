use Rattle.std.proofs.Common.{rules, sym, ◌∙◌}
use Rattle.vc_object_map.specs.Graph.{IsClosed}
use Rattle.vc_object.specs.ObjectMap.{links_in}
use Rattle.vc_push.specs.PushView.{command_of}
use Rattle.vc_session.proofs.JudgeLemmas.{own_verdict, may_be_set, missing, the_rest}
use Rattle.vc_session.proofs.judging.judge.Goals as goal

pub returns-in-Some-clause-verdict : goal.returns-in-Some-clause-verdict
returns-in-Some-clause-verdict g c honest agrees whole =
    let objects = g.C.Objects.objects (g.C.Objects.state_of c.args.commits.now) in
    own_verdict objects (command_of c.args.command.now) c.in-Some.reason (sym c.own_reason.ensures ∙ c.in-Some.is)

pub returns-then-not-branch-clause-verdict : goal.returns-then-not-branch-clause-verdict
returns-then-not-branch-clause-verdict g c honest agrees whole =
    let objects = g.C.Objects.objects (g.C.Objects.state_of c.args.commits.now) in
    let answer = c.in_ok-is_complete_beyond.ensures.complete honest whole.closed in
    let gap : IsClosed (links_in objects) c.args.command.now.new → ⊥ = λ closed. let h = answer.1 closed in cc (h, c.if-not-branch.true) in
    missing objects (command_of c.args.command.now) (sym c.own_reason.ensures ∙ c.in_default.is) gap

pub returns-clause-verdict : goal.returns-clause-verdict
returns-clause-verdict g c honest agrees whole =
    let objects = g.C.Objects.objects (g.C.Objects.state_of c.args.commits.now) in
    let closed = (c.in_ok-is_complete_beyond.ensures.complete honest whole.closed).0 (search rules) in
    let later = rw c.in_ok-is_complete_beyond.ensures.kept at (c.in_ok-found.ensures.verdict honest) in
    the_rest objects (command_of c.args.command.now) c.in_ok-found.found (sym c.own_reason.ensures ∙ c.in_default.is) closed (later agrees whole.histories)

pub returns-clause-legal : goal.returns-clause-legal
returns-clause-legal g c none =
    may_be_set (g.C.Objects.objects (g.C.Objects.state_of c.args.commits.now)) (command_of c.args.command.now) (sym c.own_reason.ensures ∙ c.in_default.is)

pub returns-clause-known : goal.returns-clause-known
returns-clause-known g c honest whole =
    let later = rw c.in_ok-is_complete_beyond.ensures.kept at (c.in_ok-found.ensures.known honest) in
    record { closed = c.in_ok-is_complete_beyond.ensures.known honest whole.closed; histories = later whole.histories }

pub returns-in_err-found-clause-known : goal.returns-in_err-found-clause-known
returns-in_err-found-clause-known g c honest whole =
    let later = rw c.in_ok-is_complete_beyond.ensures.kept at (c.in_err-found.ensures.known honest) in
    record { closed = c.in_ok-is_complete_beyond.ensures.known honest whole.closed; histories = later whole.histories }
