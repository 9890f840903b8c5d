use Rattle.vc_pkt.proofs.UseLaws.{however_cut}
use Rattle.vc_pkt.proofs.laws.however_cut.Goals as goal

pub returns : goal.returns
returns c = λ uses held h part. however_cut uses held h part
