use Rattle.vc_rev.proofs.ValueLemmas.{has_one_value as proved}
use Rattle.vc_rev.proofs.an_expression_has_one_value.Goals as goal

pub returns : goal.returns
returns c = proved
