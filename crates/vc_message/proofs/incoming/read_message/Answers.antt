use Rattle.vc_message.proofs.IncomingFronts.{fault_known, known_message, message_taken}
use Rattle.vc_message.proofs.incoming.read_message.Goals as goal

pub returns-clause-message : goal.returns-clause-message
returns-clause-message g c = message_taken _ _ c.take_message.result c.take_message.ensures.message

pub returns-clause-known : goal.returns-clause-known
returns-clause-known g c = λ m bytes rest is reads.
    known_message _ bytes rest m reads _ c.take_message.result is c.take_message.ensures.message c.take_message.ensures.end c.take_message.ensures.fault

pub returns-clause-unread : goal.returns-clause-unread
returns-clause-unread g c = fault_known _ _ c.take_message.result c.take_message.ensures.fault
