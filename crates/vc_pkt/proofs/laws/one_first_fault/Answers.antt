use Rattle.vc_pkt.proofs.FaultLaws.{one_first_fault}
use Rattle.vc_pkt.proofs.laws.one_first_fault.Goals as goal

pub returns : goal.returns
returns g c = λ bytes fault other a b. one_first_fault _ _ bytes fault other a b
