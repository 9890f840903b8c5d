use Rattle.vc_pkt.proofs.FaultLaws.{one_message}
use Rattle.vc_message.specs.AnyMessage.{any_step, beginning}
use Rattle.vc_message.proofs.AnyLaws.{any_given}
use Rattle.vc_message.proofs.laws.one_message.Goals as goal

pub returns : goal.returns
returns c = λ bytes message other (lines, each, s) (others, all, t). one_message any_step beginning bytes message lines each (any_given message lines s) other (others, all, any_given other others t)
