use Rattle.vc_wire.proofs.WireLaws.{message_laws}
use Rattle.vc_wire.proofs.messages_are_a_wire.Goals as goal

pub returns : goal.returns
returns c = message_laws
