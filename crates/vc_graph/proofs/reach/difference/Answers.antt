use Rattle.std.proofs.Common.{◌≡◌, ◌++◌, Contains, ◌↔◌, ap, length, arith}
use Rattle.std.proofs.lemmas.Grind.{common_steps}
use Rattle.vc_graph.proofs.FaultLemmas.{IsTold-more}
use Rattle.vc_object_map.proofs.WalkLemmas.{Contains-added, IsClosedUnder-from_followed, ReachedFrom-append_right, ReachedFrom-went_on, ReachedFrom-all_roots}
use Rattle.vc_object.specs.ObjectMap.{links_in}
use Rattle.vc_object.specs.declared.id.ObjectId.{ObjectId}
use Rattle.vc_graph.proofs.reach.difference.Goals as goal

pub returns-in_err-walk-clause-refused : goal.returns-in_err-walk-clause-refused
returns-in_err-walk-clause-refused g c =
    let objects = g.O.Objects.objects (g.O.Objects.state_of c.args.objects.now) in
    let damaged = g.O.Objects.damaged (g.O.Objects.state_of c.args.objects.now) in
    let roots : c.new-met.result.keys ++ c.args.exclude.now ≡ c.args.exclude.now = ap (λ l. l ++ c.args.exclude.now) c.new-met.ensures.empty in
    let h = rw roots at c.in_err-walk.ensures.refused in
    let told = λ (honest : g.O.Objects.is_honest). IsTold-more objects damaged c.args.exclude.now (c.args.include.now ++ c.args.exclude.now) (ReachedFrom-append_right (links_in objects) c.args.include.now c.args.exclude.now) _ (h honest) in
    grind (arith, common_steps, told)

pub returns-in_err-walk-2-clause-refused : goal.returns-in_err-walk-2-clause-refused
returns-in_err-walk-2-clause-refused g c =
    let objects = g.O.Objects.objects (g.O.Objects.state_of c.args.objects.now) in
    let damaged = g.O.Objects.damaged (g.O.Objects.state_of c.args.objects.now) in
    let first = c.walk.new.met.keys in
    let roots : c.new-met.result.keys ++ c.args.exclude.now ≡ c.args.exclude.now = ap (λ l. l ++ c.args.exclude.now) c.new-met.ensures.empty in
    let excluded = rw roots at c.in_ok-walk.ensures.reached in
    let h = rw c.in_ok-walk.ensures.kept at c.in_err-walk-2.ensures.refused in
    let told = λ (honest : g.O.Objects.is_honest). IsTold-more objects damaged (first ++ c.args.include.now) (c.args.include.now ++ c.args.exclude.now)
    (ReachedFrom-went_on (links_in objects) c.args.include.now c.args.exclude.now first (excluded honest)) _ (h honest) in
    grind (arith, common_steps, told)

pub returns-clause-reached : goal.returns-clause-reached
returns-clause-reached g c honest id =
    let links = links_in (g.O.Objects.objects (g.O.Objects.state_of c.args.objects.now)) in
    let first = c.walk.new.met.keys in
    let all = c.walk-2.new.met.keys in
    let rest = c.in_ok-sorted_from.field-0.items in
    let roots : c.new-met.result.keys ++ c.args.exclude.now ≡ c.args.exclude.now = ap (λ l. l ++ c.args.exclude.now) c.new-met.ensures.empty in
    let excluded = rw roots at (c.in_ok-walk.ensures.reached honest) in
    let both = rw c.in_ok-walk.ensures.kept at (c.in_ok-walk-2.ensures.reached honest) in
    let place : c.len-excluded.result ≡ length first = c.len-excluded.ensures.len in
    let added : (y : ObjectId) → Contains rest y ↔ (Contains all y × ¬ Contains first y) = λ y.
    rw c.in_ok-walk-2.ensures.first at (rw place at (c.in_ok-sorted_from.ensures.later y)) in
    Contains-added links c.args.include.now c.args.exclude.now first all rest excluded both added id

pub returns-clause-closed : goal.returns-clause-closed
returns-clause-closed g c honest =
    let links = links_in (g.O.Objects.objects (g.O.Objects.state_of c.args.objects.now)) in
    let first = c.walk.new.met.keys in
    let roots : c.new-met.result.keys ++ c.args.exclude.now ≡ c.args.exclude.now = ap (λ l. l ++ c.args.exclude.now) c.new-met.ensures.empty in
    let excluded = rw roots at (c.in_ok-walk.ensures.reached honest) in
    let both = rw c.in_ok-walk.ensures.kept at (c.in_ok-walk-2.ensures.reached honest) in
    let followed = rw c.in_ok-walk.ensures.kept at (c.in_ok-walk-2.ensures.followed honest) in
    IsClosedUnder-from_followed links (c.args.include.now ++ c.args.exclude.now) c.walk-2.new.met.keys
    (λ y r. (both y).1 (ReachedFrom-all_roots links c.args.include.now c.args.exclude.now first excluded y r)) followed
