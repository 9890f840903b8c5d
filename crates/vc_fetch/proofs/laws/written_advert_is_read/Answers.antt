use Rattle.vc_fetch.proofs.WrittenAdverts.{written_advert}
use Rattle.vc_fetch.proofs.laws.written_advert_is_read.Goals as goal

pub returns : goal.returns
returns c = λ advert w. written_advert advert w
