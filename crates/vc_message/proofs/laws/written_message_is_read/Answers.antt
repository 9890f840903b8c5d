use Rattle.vc_message.proofs.AnyLaws.{written_message}
use Rattle.vc_message.proofs.laws.written_message_is_read.Goals as goal

pub returns : goal.returns
returns c = λ message w. written_message message w
