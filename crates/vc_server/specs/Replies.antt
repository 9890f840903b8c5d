-- What a message is replied, over any files.
use Rattle.std.specs.Global.{Global}
use Rattle.std.specs.Prelude.{◌≡◌, ⊤, ℕ, List, Option, Some, Result, Ok, Vec}
use Rattle.vc_files.specs.FileMap.{FileMap}
use Rattle.vc_message.specs.AnyMessage.{MessageText, SpellsMessage, a_list, a_push, a_want}
use Rattle.vc_message.specs.Coming.{Came, a_message}
use Rattle.vc_pkt.specs.Message.{IsSpelledBy}
use Rattle.vc_shared.specs.Serving.{IsAnswered, IsListed}
use Rattle.vc_shared.specs.declared.accept_fault.AcceptFault.{AcceptFault}
use Rattle.vc_shared.specs.declared.accepting.Accepted.{Accepted}
use Rattle.vc_shared.specs.declared.accepting.Accepted.TheVariants.{Reply, Slot}

-- what was taken is replied to by its bytes; of the report on a push nothing is said here
abbrev pub IsReplyOf : Accepted → Vec ℕ Global → Type 0
IsReplyOf (Reply bytes) reply = reply ≡ bytes
IsReplyOf (Slot k) reply = ⊤

-- a list is replied to by the refs, and a want by its pack
abbrev pub IsReplyTo : FileMap → MessageText → Vec ℕ Global → Type 0
IsReplyTo content a_list reply = IsListed content reply.items
IsReplyTo content (a_want want) reply = IsAnswered content want reply.items
IsReplyTo content (a_push push) reply = ⊤
IsReplyTo content _ reply = ⊥

-- the same where bytes came
abbrev pub IsReplyToBytes : FileMap → List ℕ → Vec ℕ Global → Type 0
IsReplyToBytes content bytes reply = (text : MessageText) × IsSpelledBy SpellsMessage text bytes × IsReplyTo content text reply

-- and where a reader brought it
abbrev pub IsRepliedThere : Came → FileMap → Result (Option (Vec ℕ Global)) AcceptFault → Type 0
IsRepliedThere (a_message text) content (Ok (Some reply)) = IsReplyTo content text reply
IsRepliedThere _ content _ = ⊤
