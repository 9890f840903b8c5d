use Rattle.vc_model.proofs.Pushing.{push_succeeds as proved}
use Rattle.vc_model.proofs.every_exchange.a_push_succeeds.Goals as goal

pub returns : goal.returns
returns c = proved
