-- One message as the bytes that were taken of a reader.
use Rattle.std.specs.Global.{Global}
use Rattle.std.specs.Prelude.{◌≡◌, ◌⊎◌, ◌<◌, ◌≤◌, ⊤, ℕ, Bool, true, false, nat_lt, if◌then◌else◌, List, length, Option, Some, None, Result, Ok, Err, Vec}
use Rattle.std.specs.Io.KnownBytes.{Consumes}
use Rattle.vc_pkt.specs.declared.fault.PktFault.TheVariants.{TooLarge}
use Rattle.vc_pkt.specs.Message.{GivenBy, IsSpelledBy}
use Rattle.vc_message.specs.AnyMessage.{MessageText, any_step, beginning}
use Rattle.vc_message.specs.Incoming.{Fails, IsLoss, Takes}
use Rattle.vc_message.specs.Source.{one_more}
use Rattle.vc_message.specs.Streaming.{TakesSome}
use Rattle.vc_message.specs.declared.incoming_fault.IncomingFault.{IncomingFault}
use Rattle.vc_message.specs.declared.incoming_fault.IncomingFault.TheVariants.{Failed, Memory, Unread}

-- ---- what is told of a message
-- A whole message was taken. The bytes are those that were taken, and they are within the limit.
pub record KeepsMessage (limit : ℕ) (old new : Option (List ℕ)) (bytes : List ℕ) : Type 0 where
  pub consumed : Consumes old new bytes
  pub some : TakesSome old new
  pub few : length bytes ≤ limit

-- these bytes were taken, each was needed, and they spell a message
abbrev pub TakesThese : Option (List ℕ) → Option (List ℕ) → List ℕ → Type 0
TakesThese old new bytes = (text : MessageText) × Takes any_step beginning old new bytes × IsSpelledBy (GivenBy any_step beginning) text bytes

-- some of a message was taken, or a whole one, in more bytes than the limit
pub record PassesLimit (limit : ℕ) (old new : Option (List ℕ)) : Type 0 where
  pub part : (taken : List ℕ) × Takes any_step beginning old new taken
  pub bytes : List ℕ
  pub consumed : Consumes old new bytes
  pub more : limit < length bytes

-- why no message came, or it is too large
abbrev pub KeepsNone : ℕ → Option (List ℕ) → Option (List ℕ) → IncomingFault → Type 0
KeepsNone limit old new e = Fails any_step beginning old new e ⊎ ((e ≡ Unread TooLarge) × PassesLimit limit old new)

-- the answer if a message within the limit is what the reader has first: its bytes are given and what is after it is left, or the
-- reader failed, or memory was short
abbrev pub KeepsGiven : List ℕ → List ℕ → Option (List ℕ) → Result (Option (Vec ℕ Global)) IncomingFault → Type 0
KeepsGiven bytes rest new (Ok (Some kept)) = (kept.items ≡ bytes) × (new ≡ Some rest)
KeepsGiven bytes rest new (Ok None) = ⊥
KeepsGiven bytes rest new (Err e) = IsLoss e

-- ---- the source that keeps its bytes
-- the source, the bytes that were kept of it, how many reads failed, and whether one was refused before the source was asked
pub record KeepingText (R : Type 0) : Type 0 where
  pub source : R
  pub kept : List ℕ
  pub failed : ℕ
  pub refused : Bool

-- The bytes are those that were taken since the source had these to give. If one read failed, it was the source's or it was refused.
pub record IsKeeping {R : Type 0} (remaining : R → Option (List ℕ)) (fails : R → ℕ) (can_fail : R → Type 0) (front : Option (List ℕ)) (start : ℕ) (could : Type 0) (source : R) (kept : List ℕ) (failed : ℕ) (refused : Bool) : Type 0 where
  pub consumed : Consumes front (remaining source) kept
  pub calm : can_fail source → could
  pub whole : failed ≡ 0 → (fails source ≡ start) × (refused ≡ false)
  pub once : failed ≡ 1 → refused ≡ false → (fails source ≡ one_more start) × could
  pub stopped : failed ≡ 1 → refused ≡ true → fails source ≡ start

-- whether the bytes are more than the limit
abbrev pub is_over : List ℕ → ℕ → Bool
is_over kept limit = nat_lt limit (length kept)

-- why a read was refused
abbrev pub refusal : List ℕ → ℕ → IncomingFault
refusal kept limit = if is_over kept limit then Unread TooLarge else Memory

-- what is told if these bytes were kept of what was read
abbrev pub kept_as : Result (Option ⊤) IncomingFault → Vec ℕ Global → ℕ → Bool → Result (Option (Vec ℕ Global)) IncomingFault
kept_as (Ok None) kept limit refused = Ok None
kept_as (Ok (Some u)) kept limit refused = if is_over kept.items limit then Err (Unread TooLarge) else Ok (Some kept)
kept_as (Err Failed) kept limit refused = Err (if refused then refusal kept.items limit else Failed)
kept_as (Err Memory) kept limit refused = Err Memory
kept_as (Err (Unread fault)) kept limit refused = Err (Unread fault)
