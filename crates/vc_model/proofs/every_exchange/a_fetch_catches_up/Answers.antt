use Rattle.vc_model.proofs.Fetches.{fetch_catches_up as proved}
use Rattle.vc_model.proofs.every_exchange.a_fetch_catches_up.Goals as goal

pub returns : goal.returns
returns c = proved
