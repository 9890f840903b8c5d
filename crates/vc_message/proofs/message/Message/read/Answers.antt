use Rattle.vc_pkt.proofs.FaultLaws.{spelled_all, read_all}
use Rattle.vc_message.specs.AnyMessage.{SpellsMessage, any_step, beginning}
use Rattle.vc_message.specs.AnyView.{message_text}
use Rattle.vc_message.proofs.AnyLaws.{any_spelled, any_given}
use Rattle.vc_message.proofs.message.Message.read.Goals as goal

pub returns-clause-spelled : goal.returns-clause-spelled
returns-clause-spelled c = spelled_all any_step beginning SpellsMessage any_spelled any_given message_text _ c.read_message.result c.read_message.ensures

pub returns-clause-read : goal.returns-clause-read
returns-clause-read c = read_all any_step beginning SpellsMessage any_spelled any_given message_text _ c.read_message.result c.read_message.ensures
