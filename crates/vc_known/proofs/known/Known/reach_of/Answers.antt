use Rattle.vc_lemmas.proofs.Lists.{value_of}
use Rattle.std.proofs.Common.{arith}
use Rattle.std.proofs.lemmas.Grind.{common_steps}
use Rattle.vc_known.proofs.KindLemmas.{links-from_IsOfKind}
use Rattle.vc_known.proofs.ReachOfLemmas.{IsReachOf-walked}
use Rattle.vc_known.specs.Walked.{kind_met}
use Rattle.vc_known.proofs.known.Known.reach_of.Goals as goal

pub returns-clause-reach : goal.returns-clause-reach
returns-clause-reach g c honest agrees =
    let objects = g.K.Objects.objects (g.K.Objects.state_of c.args.objects.now) in
    let walked = c.walk_down.new.walked in
    let kept = c.in_ok-count.ensures.kept in
    let to = c.in_ok-count.ensures.reached honest in
    let reached = rw (c.new-above.ensures.met, kept) at (c.in_ok-walk_down.ensures.reached honest) in
    let whole = rw kept at (c.in_ok-walk_down.ensures.whole honest) in
    IsReachOf-walked objects _ c.args.roots.now agrees to reached (λ x at.
    let kind = value_of (kind_met walked x) (whole.read x at) in
    links-from_IsOfKind objects x kind.0 (whole.kinds x kind.0 kind.1))

pub returns-in_err-walk_down-clause-refused : goal.returns-in_err-walk_down-clause-refused
returns-in_err-walk_down-clause-refused g c =
    let told = rw (c.new-above.ensures.met, c.in_ok-count.ensures.kept) at c.in_err-walk_down.ensures.refused in
    grind (arith, common_steps, told)

pub walk_down-requires : goal.walk_down-requires
walk_down-requires g c honest = c.new-above.ensures.whole (g.K.Objects.objects (g.K.Objects.state_of c.last_reached.new.commits)) c.args.self.now c.in_ok-count.count
