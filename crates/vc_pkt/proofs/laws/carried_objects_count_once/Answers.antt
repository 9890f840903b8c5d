use Rattle.vc_pkt.proofs.CarriedOnce.{carried_named}
use Rattle.vc_pkt.proofs.laws.carried_objects_count_once.Goals as goal

pub returns : goal.returns
returns c = λ id objects. carried_named id objects
