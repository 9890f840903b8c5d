use Rattle.vc_node.proofs.BurnLemmas.{done_burns, done_burns_if_sound, made_burns, made_burns_if_sound}
use Rattle.vc_node.proofs.burning.a_call_spends_what_the_machine_allows.Goals as goal

pub returns : goal.returns
returns g c = search (made_burns, done_burns, made_burns_if_sound, done_burns_if_sound)
