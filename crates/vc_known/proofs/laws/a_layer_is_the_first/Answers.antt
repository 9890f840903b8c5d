use Rattle.vc_known.proofs.LayerLemmas.{layer_is_first}
use Rattle.vc_known.proofs.laws.a_layer_is_the_first.Goals as goal

pub returns : goal.returns
returns c = layer_is_first
