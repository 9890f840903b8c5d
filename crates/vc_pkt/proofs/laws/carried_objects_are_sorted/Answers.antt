use Rattle.vc_pkt.proofs.CarriedOnce.{carried_sorted, none_sorted}
use Rattle.vc_pkt.proofs.laws.carried_objects_are_sorted.Goals as goal

pub returns : goal.returns
returns c = λ objects. carried_sorted objects _ none_sorted
