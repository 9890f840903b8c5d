use Rattle.vc_known.proofs.ReachOfLemmas.{reaches_first}
use Rattle.vc_known.proofs.known.first_layer.Goals as goal

pub returns-clause-agrees : goal.returns-clause-agrees
returns-clause-agrees g c honest =
    let objects = g.O.Objects.objects (g.O.Objects.state_of c.args.objects.now) in
    c.in_ok-add_layer.ensures.agrees honest (c.new-known.ensures.agrees objects) (reaches_first objects c.new-known.result c.args.roots.now c.new-known.ensures.moments)
