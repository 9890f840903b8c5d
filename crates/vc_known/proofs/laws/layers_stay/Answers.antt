use Rattle.vc_known.proofs.LayerLemmas.{AreLayers-kept, AreLayers-grown}
use Rattle.vc_known.proofs.laws.layers_stay.Goals as goal

pub returns-clause-kept : goal.returns-clause-kept
returns-clause-kept c = AreLayers-kept

pub returns-clause-grown : goal.returns-clause-grown
returns-clause-grown c = AreLayers-grown
