-- One message from a reader: what is taken of the reader's bytes, and why no message came.
use Rattle.std.specs.Prelude.{◌≡◌, ◌≢◌, ◌+◌, ◌<◌, ◌≤◌, ℕ, List, [], ◌++◌, length, Option, Some, None, Result, Ok, Err}
use Rattle.std.specs.Io.KnownBytes.{Consumes, IsAtEnd}
use Rattle.vc_pkt.specs.Line.{LineText, IsBad, IsLength, IsLine, IsPart, max_data}
use Rattle.vc_pkt.specs.Message.{FirstFault, IsSpelledBy, Steps}
use Rattle.vc_pkt.specs.declared.fault.PktFault.{PktFault}
use Rattle.vc_pkt.specs.declared.fault.PktFault.TheVariants.{CutMessage}
use Rattle.vc_model.specs.Message.{Message as Sent}
use Rattle.vc_message.specs.AnyMessage.{MessageText, SpellsMessage, any_step, beginning}
use Rattle.vc_message.specs.AnyView.{message_text}
use Rattle.vc_message.specs.Machine.{TextOf}
use Rattle.vc_message.specs.declared.incoming_fault.IncomingFault.{IncomingFault}
use Rattle.vc_message.specs.declared.incoming_fault.IncomingFault.TheVariants.{Failed, Memory, Unread}
use Rattle.vc_message.specs.declared.message.Message.{Message}

-- ---- a line
-- how many bytes a line has behind these, the first four of it; none where they are fewer, a line, or no line's
pub data IsRest (front : List ℕ) (n : ℕ) : Type 0 where
  fewer : length front < 4 → n ≡ 0 → IsRest front n
  none : IsBad front → n ≡ 0 → IsRest front n
  all : (line : LineText) → IsLine line front → n ≡ 0 → IsRest front n
  more : IsLength front (n + 4) → 0 < n → n ≤ max_data → IsRest front n

-- no byte stands behind a line, or behind four that no line begins with
abbrev pub IsWithinLine : List ℕ → Type 0
IsWithinLine bytes = (front more : List ℕ) → bytes ≡ front ++ more → more ≢ [] → IsPart front

-- a line, four bytes that no line begins with, or less than a line where the reader has no more
pub data IsLineOf (new : Option (List ℕ)) (bytes : List ℕ) : Type 0 where
  whole : (line : LineText) → IsLine line bytes → IsLineOf new bytes
  wrong : IsBad bytes → IsLineOf new bytes
  ended : IsPart bytes → IsAtEnd new → IsLineOf new bytes

-- bytes within a line were taken
abbrev pub TakesWithinLine : Option (List ℕ) → Option (List ℕ) → List ℕ → Type 0
TakesWithinLine old new bytes = Consumes old new bytes × IsWithinLine bytes

-- the reader failed, or memory was short
abbrev pub IsLoss : IncomingFault → Type 0
IsLoss (Unread fault) = ⊥
IsLoss _ = Unit {0}

-- ---- a message
-- the reader has no more, and nothing was taken of it
abbrev pub TakesNothing : Option (List ℕ) → Option (List ℕ) → Type 0
TakesNothing old new = Consumes old new [] × IsAtEnd new

module _ {S M : Type 0} (step : Steps S M) (start : S) where
  -- nothing is wrong with the bytes, but that more must come
  abbrev pub IsBegun : List ℕ → Type 0
  IsBegun bytes = FirstFault step start bytes CutMessage

  -- the reader gave the bytes, and each was needed: those before it are a message that has begun
  pub record Takes (old new : Option (List ℕ)) (bytes : List ℕ) : Type 0 where
    pub consumed : Consumes old new bytes
    pub needed : (front more : List ℕ) → bytes ≡ front ++ more → more ≢ [] → IsBegun front

  -- the bytes that were taken have this first fault; they are cut only where the reader has no more
  pub record TakesFault (old new : Option (List ℕ)) (fault : PktFault) : Type 0 where
    pub bytes : List ℕ
    pub taken : Takes old new bytes
    pub some : bytes ≢ []
    pub first : FirstFault step start bytes fault
    pub end : fault ≡ CutMessage → IsAtEnd new

  -- why no message came, and what was taken of it
  abbrev pub Fails : Option (List ℕ) → Option (List ℕ) → IncomingFault → Type 0
  Fails old new (Unread fault) = TakesFault old new fault
  Fails old new Failed = (bytes : List ℕ) × Takes old new bytes
  Fails old new Memory = (bytes : List ℕ) × Takes old new bytes

-- the reader gave bytes, each was needed, and they spell the message
abbrev pub TakesText : {S M : Type 0} (step : Steps S M) (start : S) → (M → List LineText → Type 0) → Option (List ℕ) → Option (List ℕ) → M → Type 0
TakesText step start Spells old new text = (bytes : List ℕ) × Takes step start old new bytes × IsSpelledBy Spells text bytes

-- a message of any kind was taken, which is one of the machine
abbrev pub TakesMessage : Option (List ℕ) → Option (List ℕ) → MessageText → Type 0
TakesMessage old new text = TakesText any_step beginning SpellsMessage old new text × ((m : Sent) × TextOf m text)

-- the answer where a message is what the reader has first: it is given and what is behind it is left, or the reader failed, or memory
-- was short
abbrev pub GivesMessage : Sent → List ℕ → Option (List ℕ) → Result (Option Message) IncomingFault → Type 0
GivesMessage m rest new (Ok (Some message)) = TextOf m (message_text message) × (new ≡ Some rest)
GivesMessage m rest new (Ok None) = ⊥
GivesMessage m rest new (Err fault) = IsLoss fault

-- where the bytes of the reader are known, a fault is the first of all of them
abbrev pub IsFaultOf : Option (List ℕ) → IncomingFault → Type 0
IsFaultOf (Some bytes) (Unread fault) = FirstFault any_step beginning bytes fault
IsFaultOf _ _ = Unit {0}

-- so many bytes were read and added, or fewer at the end of the reader
abbrev pub AddsBytes : Option (List ℕ) → Option (List ℕ) → List ℕ → List ℕ → ℕ → Type 0
AddsBytes old new before after count = (read : List ℕ) × (after ≡ before ++ read) × Consumes old new read × (length read ≤ count) × (length read < count → IsAtEnd new)

-- a line was
abbrev pub AddsLine : Option (List ℕ) → Option (List ℕ) → List ℕ → List ℕ → Type 0
AddsLine old new before after = (read : List ℕ) × (after ≡ before ++ read) × TakesWithinLine old new read × IsLineOf new read
