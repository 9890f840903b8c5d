use Rattle.vc_known.proofs.LayerLemmas.{moments_grow}
use Rattle.vc_known.proofs.laws.layers_grow.Goals as goal

pub returns : goal.returns
returns c = moments_grow
