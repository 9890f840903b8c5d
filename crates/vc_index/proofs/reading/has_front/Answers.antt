use Rattle.std.proofs.Common.{◌∙◌}
use Rattle.vc_index.proofs.FrontLemmas.{lent_fronts}
use Rattle.vc_index.proofs.reading.has_front.Goals as goal

pub returns : goal.returns
returns c = c.contains.ensures.value ∙ lent_fronts c.args.fronts.now c.args.path.now
