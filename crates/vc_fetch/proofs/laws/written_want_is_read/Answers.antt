use Rattle.vc_fetch.proofs.WrittenMessages.{written_want}
use Rattle.vc_fetch.proofs.laws.written_want_is_read.Goals as goal

pub returns : goal.returns
returns c = λ want w. written_want want w
