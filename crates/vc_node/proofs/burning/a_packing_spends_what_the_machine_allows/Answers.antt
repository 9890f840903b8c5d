use Rattle.vc_node.proofs.BurnLemmas.{packs_burn}
use Rattle.vc_node.proofs.burning.a_packing_spends_what_the_machine_allows.Goals as goal

pub returns : goal.returns
returns g c = record { packed = packs_burn _ _ _ _ _ }
