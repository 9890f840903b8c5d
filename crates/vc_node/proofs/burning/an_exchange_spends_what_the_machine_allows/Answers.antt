use Rattle.vc_node.proofs.BurnLemmas.{found_burns, received_burns, sent_burns}
use Rattle.vc_node.proofs.burning.an_exchange_spends_what_the_machine_allows.Goals as goal

pub returns : goal.returns
returns g c = search (received_burns, sent_burns, found_burns)
