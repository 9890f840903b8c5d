use Rattle.std.proofs.Common.{◌≡◌, ◌++◌, ap, arith}
use Rattle.vc_object_map.proofs.WalkLemmas.{IsClosedUnder-from_followed}
use Rattle.vc_object.specs.ObjectMap.{links_in}
use Rattle.vc_graph.proofs.reach.closure.Goals as goal

pub returns-clause-reached : goal.returns-clause-reached
returns-clause-reached g c honest id =
    let roots : c.new-met.result.keys ++ c.args.roots.now ≡ c.args.roots.now = ap (λ l. l ++ c.args.roots.now) c.new-met.ensures.empty in
    let reached = rw roots at (c.in_ok-walk.ensures.reached honest id) in
    let later = c.in_ok-sorted_from.ensures.later id in
    (λ h. reached.0 (later.0 h).0, λ h. later.1 (reached.1 h, λ none. absurd (omega (arith, none.1))))

pub returns-clause-closed : goal.returns-clause-closed
returns-clause-closed g c honest =
    let links = links_in (g.O.Objects.objects (g.O.Objects.state_of c.args.objects.now)) in
    let roots : c.new-met.result.keys ++ c.args.roots.now ≡ c.args.roots.now = ap (λ l. l ++ c.args.roots.now) c.new-met.ensures.empty in
    IsClosedUnder-from_followed links c.args.roots.now c.walk.new.met.keys (λ y r. (rw roots at (c.in_ok-walk.ensures.reached honest y)).1 r) (c.in_ok-walk.ensures.followed honest)
