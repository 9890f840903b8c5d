-- What a call of a node tells that sends a message, as an answer of the machine and what it sends.
use Rattle.std.specs.Prelude.{◌≡◌, ℕ, List, Option, Some}
use Rattle.vc_message.specs.Machine.{IsWritten}
use Rattle.vc_model.specs.Message.{Message}
use Rattle.vc_model.specs.Node.{Answer}
use Rattle.vc_model.specs.Node.Answer.{Did}
use Rattle.vc_model.specs.Node.Reply.{Sends}

-- bytes are sent that are a message's
pub record SendsBytes (bytes : List ℕ) (a : Answer) (sends : Option Message) : Type 0 where
  pub message : Message
  pub written : IsWritten message bytes
  pub answer : a ≡ Did Sends
  pub sent : sends ≡ Some message
