-- What came of a reader that a node takes a message from.
use Rattle.std.specs.Prelude.{ℕ, List, Option}
use Rattle.vc_message.specs.AnyMessage.{MessageText, any_step, beginning}
use Rattle.vc_message.specs.Incoming.{Takes, TakesFault, TakesMessage, TakesNothing, TakesText}
use Rattle.vc_pkt.specs.Message.{GivenBy}
use Rattle.vc_pkt.specs.declared.fault.PktFault.{PktFault}

-- the reader gave the message, and nothing else
abbrev pub TakesAll : Option (List ℕ) → Option (List ℕ) → MessageText → Type 0
TakesAll before new text = TakesText any_step beginning (GivenBy any_step beginning) before new text

-- it gave some of a message, or bytes that are none, and each was needed to tell
abbrev pub TakesPart : Option (List ℕ) → Option (List ℕ) → Type 0
TakesPart before new = (bytes : List ℕ) × Takes any_step beginning before new bytes

-- a message, nothing, bytes that are no message, or some of one, where the reader failed, or the node did
pub data Came : Type 0 where
  a_message : MessageText → Came
  nothing_came : Came
  no_message : PktFault → Came
  lost : Came
  cut_short : Came

abbrev pub IsCome : Option (List ℕ) → Option (List ℕ) → Came → Type 0
IsCome before new (a_message text) = TakesMessage before new text
IsCome before new nothing_came = TakesNothing before new
IsCome before new (no_message fault) = TakesFault any_step beginning before new fault
IsCome before new lost = TakesPart before new
IsCome before new cut_short = TakesPart before new
