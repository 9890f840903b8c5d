use Rattle.vc_fetch.proofs.WrittenMessages.{written_error}
use Rattle.vc_fetch.proofs.laws.written_error_is_read.Goals as goal

pub returns : goal.returns
returns c = λ words short. written_error words short
