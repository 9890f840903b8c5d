use Rattle.vc_model.proofs.Exchanges.{round_ends_well as proved}
use Rattle.vc_model.proofs.every_exchange.a_round_of_a_fetch_ends_well.Goals as goal

pub returns : goal.returns
returns c = proved
