-- A message that may have so much before its objects and no more.
use Rattle.std.specs.Prelude.{◌≡◌, ◌⊎◌, ◌≤◌, ◌<◌, ◌+◌, ℕ, List, Option}
use Rattle.vc_pkt.specs.declared.fault.PktFault.{PktFault}
use Rattle.vc_pkt.specs.declared.fault.PktFault.TheVariants.{TooLarge, TooMany}
use Rattle.vc_pkt.specs.Line.{max_data}
use Rattle.vc_message.specs.AnyMessage.{AnyState, any_step, beginning}
use Rattle.vc_message.specs.Incoming.{Fails}
use Rattle.vc_message.specs.Streaming.{LeadsTo}
use Rattle.vc_message.specs.declared.bounded.Bound.{Bound}
use Rattle.vc_message.specs.declared.incoming_fault.IncomingFault.{IncomingFault}
use Rattle.vc_message.specs.declared.incoming_fault.IncomingFault.TheVariants.{Unread}
use Rattle.vc_message.specs.declared.streaming.Taken.{Taken}

-- as many lines as there may be, or as many bytes, are too many: the number of the refusal tells which
abbrev pub IsBeyond : Bound → ℕ → ℕ → PktFault → Type 0
IsBeyond bound bytes lines fault = ((fault ≡ TooMany) × (bound.lines ≤ lines)) ⊎ ((fault ≡ TooLarge) × (bound.bytes ≤ bytes))

-- So much of a message was taken that it may have no more before its objects, and these have not come, nor its end.
pub record PassesBound (bound : Bound) (old new : Option (List ℕ)) (fault : PktFault) : Type 0 where
  pub bytes : ℕ
  pub lines : ℕ
  pub state : AnyState
  pub leads : LeadsTo any_step beginning old new bytes lines state
  pub beyond : IsBeyond bound bytes lines fault

-- why no message came, or it has too much before its objects
abbrev pub FailsWithin : Bound → Option (List ℕ) → Option (List ℕ) → IncomingFault → Type 0
FailsWithin bound old new e = Fails any_step beginning old new e ⊎ ((fault : PktFault) × (e ≡ Unread fault) × PassesBound bound old new fault)

-- what was taken is within the bound, but for the bytes of the last line
abbrev pub IsWithin : Bound → Taken → Type 0
IsWithin bound taken = (taken.lines ≤ bound.lines) × ((before : ℕ) × (before < bound.bytes) × (taken.bytes ≤ before + (max_data + 4)))
