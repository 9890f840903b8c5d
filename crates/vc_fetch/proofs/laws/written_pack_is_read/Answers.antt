use Rattle.vc_fetch.proofs.WrittenMessages.{written_pack}
use Rattle.vc_fetch.proofs.laws.written_pack_is_read.Goals as goal

pub returns : goal.returns
returns c = λ pack w. written_pack pack w
