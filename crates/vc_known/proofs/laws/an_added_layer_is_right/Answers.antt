use Rattle.vc_known.proofs.LayerLemmas.{AreLayers-added}
use Rattle.vc_known.proofs.laws.an_added_layer_is_right.Goals as goal

pub returns : goal.returns
returns c = AreLayers-added
