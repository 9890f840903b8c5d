use Rattle.vc_fetch.proofs.WrittenMessages.{written_list}
use Rattle.vc_fetch.proofs.laws.written_list_is_read.Goals as goal

pub returns : goal.returns
returns c = written_list
