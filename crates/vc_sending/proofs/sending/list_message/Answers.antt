use Rattle.vc_sending.proofs.SendingLaws.{written_list}
use Rattle.vc_sending.proofs.sending.list_message.Goals as goal

pub returns : goal.returns
returns c = written_list c.in_ok-bytes.bytes.items c.in_ok-bytes.ensures
