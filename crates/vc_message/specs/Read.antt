-- A message that was read.
use Rattle.std.specs.Prelude.{ℕ, List}
use Rattle.vc_pkt.specs.Message.{IsSpelledBy}
use Rattle.vc_message.specs.AnyMessage.{MessageText, SpellsMessage}

-- some bytes are read as it
abbrev pub WasRead : MessageText → Type 0
WasRead text = (bytes : List ℕ) × IsSpelledBy SpellsMessage text bytes
