-- A message that carries objects, taken object by object.
use Rattle.std.specs.Prelude.{◌≡◌, ◌≢◌, ◌+◌, ◌⊎◌, ℕ, Bool, true, false, List, [], ◌++◌, length, Option, Some, None, Ok}
use Rattle.std.specs.Io.KnownBytes.{Consumes}
use Rattle.vc_object.specs.Decoding.{StoredObject}
use Rattle.vc_object.specs.declared.id.ObjectId.{ObjectId}
use Rattle.vc_pkt.specs.Carried.{with_object}
use Rattle.vc_pkt.specs.Faults.{FaultAt}
use Rattle.vc_pkt.specs.Line.{LineText, IsLine, IsLines}
use Rattle.vc_pkt.specs.Message.{GivenBy, Steps, run}
use Rattle.vc_pkt.specs.ObjectStream.{Progress, between}
use Rattle.vc_pkt.specs.declared.fault.PktFault.{PktFault}
use Rattle.vc_pkt.specs.declared.fault.PktFault.TheVariants.{BadRecord}
use Rattle.vc_fetch.specs.Pack.{is_object}
use Rattle.vc_fetch.specs.Pack as pack
use Rattle.vc_push.specs.Push.{Carried, HeadText, carry, with_carried}
use Rattle.vc_push.specs.Push as push
use Rattle.vc_push.specs.PushView.{head_text}
use Rattle.vc_message.specs.AnyMessage.{AnyState, MessageText, a_pack, a_push, any_step, beginning, in_pack, in_push}
use Rattle.vc_message.specs.AnyView.{message_text}
use Rattle.vc_message.specs.Incoming.{Fails, IsLineOf, IsLoss, TakesFault, TakesText, TakesWithinLine}
use Rattle.vc_message.specs.declared.incoming_fault.IncomingFault.{IncomingFault}
use Rattle.vc_message.specs.declared.incoming_fault.IncomingFault.TheVariants.{Unread}
use Rattle.vc_message.specs.declared.streaming.Head.{Head}
use Rattle.vc_message.specs.declared.streaming.Head.TheVariants as heads
use Rattle.vc_message.specs.declared.streaming.Taken.{Taken}

-- ---- a line
-- a line was taken, the next behind so many bytes
pub record TakesLine (old new : Option (List ℕ)) (place end : ℕ) (bytes : List ℕ) : Type 0 where
  pub line : LineText
  pub is : IsLine line bytes
  pub taken : TakesWithinLine old new bytes
  pub behind : end ≡ place + length bytes

-- the reader was at its end, and nothing came before
abbrev pub IsBeforeAll : Option (List ℕ) → Option (List ℕ) → ℕ → Type 0
IsBeforeAll old new place = (bytes : List ℕ) × TakesWithinLine old new bytes × IsLineOf new bytes × (place + length bytes ≡ 0)

-- why no line was taken, and what was taken of it
pub record FailsAtLine (old new : Option (List ℕ)) (place : ℕ) (e : IncomingFault) : Type 0 where
  pub bytes : List ℕ
  pub taken : TakesWithinLine old new bytes
  pub why : IsLoss e ⊎ ((f : PktFault) × (e ≡ Unread f) × IsLineOf new bytes × (place + length bytes ≢ 0) × FaultAt place bytes f)

-- ---- a message so far
-- the bytes that a reader gave are so many lines, which lead a message to the state
pub record LeadsTo {S M : Type 0} (step : Steps S M) (start : S) (old now : Option (List ℕ)) (place number : ℕ) (s : S) : Type 0 where
  pub bytes : List ℕ
  pub lines : List LineText
  pub each : IsLines lines bytes
  pub here : place ≡ length bytes
  pub count : number ≡ length lines
  pub goes : (others : List LineText) → run step 0 start (lines ++ others) ≡ run step number s others
  pub consumed : Consumes old now bytes

-- ---- objects
-- what came of a message that carries objects
pub data Carrier : Type 0 where
  of_push : HeadText → Carried → Carrier
  of_pack : Option ObjectId → List StoredObject → Carrier

-- what its next line finds, where the stream of its objects stands so
abbrev pub state_at : Carrier → Progress → AnyState
state_at (of_push head carried) progress = in_push (push.streaming head (record { set = carried; progress = progress }))
state_at (of_pack ack objects) progress = in_pack (pack.streaming ack (record { set = objects; progress = progress }))

-- whether an object may come in it
abbrev pub may_carry : Carrier → StoredObject → Bool
may_carry (of_push head carried) object = true
may_carry (of_pack ack objects) object = is_object object

abbrev pub with_more : StoredObject → Carrier → Carrier
with_more object (of_push head carried) = of_push head (carry object carried)
with_more object (of_pack ack objects) = of_pack ack (with_object object objects)

-- the message, once its stream has ended
abbrev pub text_of : Carrier → MessageText
text_of (of_push head carried) = a_push (with_carried head carried)
text_of (of_pack ack objects) = a_pack (record { ack = ack; objects = objects })

-- what stands before the objects of a message, with none of them yet; none for one that carries none
abbrev pub carrier_of : Head → Option Carrier
carrier_of (heads.Message message) = None
carrier_of (heads.Push head) = Some (of_push (head_text head) (Ok []))
carrier_of (heads.Pack ack) = Some (of_pack ack [])

-- the state is that of its next line
abbrev pub IsHeadAt : Head → AnyState → Type 0
IsHeadAt head s = (c : Carrier) × (carrier_of head ≡ Some c) × (s ≡ state_at c between)

-- a whole message was taken, or what stands before its objects, so many bytes and lines
abbrev pub TakesHead : Option (List ℕ) → Option (List ℕ) → Head → ℕ → ℕ → Type 0
TakesHead old new (heads.Message message) bytes lines = TakesText any_step beginning (GivenBy any_step beginning) old new (message_text message)
TakesHead old new (heads.Push head) bytes lines = LeadsTo any_step beginning old new bytes lines (state_at (of_push (head_text head) (Ok [])) between)
TakesHead old new (heads.Pack ack) bytes lines = LeadsTo any_step beginning old new bytes lines (state_at (of_pack ack []) between)

-- ---- messages that came whole, as they are known
-- the reader gave a message, whichever
abbrev pub TakesSome : Option (List ℕ) → Option (List ℕ) → Type 0
TakesSome old new = (text : MessageText) × TakesText any_step beginning (GivenBy any_step beginning) old new text

-- a push that asks for this, whatever it carries
abbrev pub TakesPush : Option (List ℕ) → Option (List ℕ) → HeadText → Type 0
TakesPush old new head = (carried : Carried) × TakesText any_step beginning (GivenBy any_step beginning) old new (text_of (of_push head carried))

-- a pack with this first line, whatever objects it brings
abbrev pub TakesPack : Option (List ℕ) → Option (List ℕ) → Option ObjectId → Type 0
TakesPack old new ack = (objects : List StoredObject) × TakesText any_step beginning (GivenBy any_step beginning) old new (text_of (of_pack ack objects))

-- ---- from wherever the reader stood before the message, of which so much was taken
-- what stands before its objects, and those that came, were taken
abbrev pub StandsAt : Option (List ℕ) → Option (List ℕ) → Taken → Carrier → Type 0
StandsAt before now taken c = LeadsTo any_step beginning before now taken.bytes taken.lines (state_at c between)

-- one more object came
abbrev pub TakesMore : Option (List ℕ) → Taken → Option (List ℕ) → Taken → StoredObject → Type 0
TakesMore old taken new after o = (before : Option (List ℕ)) (c : Carrier) → StandsAt before old taken c → may_carry c o ≡ true → StandsAt before new after (with_more o c)

-- one came that it may not carry, whose first line has this number
abbrev pub TakesBad : Option (List ℕ) → Taken → Option (List ℕ) → StoredObject → ℕ → Type 0
TakesBad old taken new o number = (before : Option (List ℕ)) (c : Carrier) → StandsAt before old taken c → may_carry c o ≡ false → TakesFault any_step beginning before new (BadRecord number)

-- it ended
abbrev pub TakesEnd : Option (List ℕ) → Taken → Option (List ℕ) → Type 0
TakesEnd old taken new = (before : Option (List ℕ)) (c : Carrier) → StandsAt before old taken c → TakesText any_step beginning (GivenBy any_step beginning) before new (text_of c)

-- it didn't come to its end
abbrev pub FailsFrom : {C : Type 0} → (C → Carrier) → Option (List ℕ) → Taken → Option (List ℕ) → IncomingFault → Type 0
FailsFrom {C = C} carrier old taken new e = (before : Option (List ℕ)) (c : C) → StandsAt before old taken (carrier c) → Fails any_step beginning before new e

-- a push, or a pack, none of whose objects was taken yet
abbrev pub no_push : HeadText → Carrier
no_push head = of_push head (Ok [])

abbrev pub no_pack : Option ObjectId → Carrier
no_pack ack = of_pack ack []

abbrev pub EndsPush : Option (List ℕ) → Taken → Option (List ℕ) → Type 0
EndsPush old taken new = (before : Option (List ℕ)) (head : HeadText) → StandsAt before old taken (no_push head) → TakesPush before new head

abbrev pub EndsPack : Option (List ℕ) → Taken → Option (List ℕ) → Type 0
EndsPack old taken new = (before : Option (List ℕ)) (ack : Option ObjectId) → StandsAt before old taken (no_pack ack) → TakesPack before new ack
