use Rattle.std.proofs.Common.{◌≡◌, [], ◌++◌, ◌∷◌, refl, ap}
use Rattle.vc_object_map.proofs.WalkLemmas.{ReachedFrom-one, IsClosedUnder-from_followed}
use Rattle.vc_object.specs.ObjectMap.{links_in}
use Rattle.vc_graph.proofs.reach.is_complete.Goals as goal

pub returns-in-Ok-clause-complete : goal.returns-in-Ok-clause-complete
returns-in-Ok-clause-complete g c honest =
    let links = links_in (g.O.Objects.objects (g.O.Objects.state_of c.args.objects.now)) in
    let root = c.args.root.now in
    let roots : c.new-met.result.keys ++ root ∷ [] ≡ root ∷ [] = ap (λ l. l ++ root ∷ []) c.new-met.ensures.empty in
    let closed = IsClosedUnder-from_followed links (root ∷ []) c.walk.new.met.keys (λ y r. (rw roots at (c.in-Ok.ensures.reached honest y)).1 r) (c.in-Ok.ensures.followed honest) in
    (λ yes y r. closed y (ReachedFrom-one links root y r), λ all. refl)
