use Rattle.vc_pkt.proofs.ListLaws.{one_bad_place}
use Rattle.vc_pkt.proofs.laws.one_bad_place.Goals as goal

pub returns : goal.returns
returns c = λ bytes place other a b. one_bad_place bytes place other a b
