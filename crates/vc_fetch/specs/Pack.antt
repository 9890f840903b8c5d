-- The message Pack: which have was counted, and an object stream.
use Rattle.std.specs.Prelude.{◌≡◌, ◌++◌, ℕ, Bool, true, List, [], ◌∷◌, codes, Option, Some, None, Result, Ok, Err, is_some, if◌then◌else◌}
use Rattle.std.specs.List.{AllByRecursion}
use Rattle.std.specs.Option.{option_map}
use Rattle.std.specs.Str.{bytes_eq}
use Rattle.hex.specs.Hex.{encode_lower}
use Rattle.vc_object.specs.Lines.{IsId}
use Rattle.vc_object.specs.Object.{object_bytes}
use Rattle.vc_object.specs.Decoding.{StoredObject, decoded}
use Rattle.vc_object.specs.declared.id.ObjectId.{ObjectId}
use Rattle.vc_pkt.specs.Line.{LineText, flush, text}
use Rattle.vc_pkt.specs.TextLine.{without_lf}
use Rattle.vc_pkt.specs.Message.{Stepped, onward, complete, Steps, IsOwnFault}
use Rattle.vc_pkt.specs.ObjectStream.{SpellsSet, SetState, set_step, no_objects}
use Rattle.vc_pkt.specs.StreamFaults.{set_step_own}
use Rattle.vc_pkt.specs.Written.{stream_lines, IsWrittenSet}
use Rattle.vc_pkt.specs.declared.fault.PktFault.{PktFault}
use Rattle.vc_pkt.specs.declared.fault.PktFault.TheVariants.{BadRecord}
use Rattle.vc_fetch.specs.Ids.{IsIdLine, id_line}

pub record PackText : Type 0 where
  pub ack : Option ObjectId
  pub objects : List StoredObject

-- whether its bytes are those of an object: its body is in the grammar of its kind, and not over the limit
unfoldable pub is_object : StoredObject → Bool
is_object object = is_some (decoded (object_bytes object.kind object.body))

-- `ACK` and the id, or `NAK`
abbrev pub IsAckLine : Option ObjectId → List ℕ → Type 0
IsAckLine None line = without_lf line ≡ codes "NAK"
IsAckLine (Some id) line = IsIdLine (codes "ACK ") id line

-- a line of what was counted, and a stream of objects, none out of its grammar
pub record SpellsPack (pack : PackText) (lines : List LineText) : Type 0 where
  pub first : List ℕ
  pub others : List LineText
  pub begins : IsAckLine pack.ack first
  pub stream : SpellsSet is_object pack.objects others
  pub whole : lines ≡ text first ∷ others

-- how it is written
abbrev pub ack_text : Option ObjectId → List ℕ
ack_text None = codes "NAK"
ack_text (Some id) = codes "ACK " ++ encode_lower id.0

abbrev pub pack_lines : PackText → List LineText
pack_lines pack = text (ack_text pack.ack ++ 10 ∷ []) ∷ stream_lines pack.objects

abbrev pub IsAckId : Option ObjectId → Type 0
IsAckId None = Unit {0}
IsAckId (Some id) = IsId id

pub record IsWrittenPack (pack : PackText) : Type 0 where
  pub ack : IsAckId pack.ack
  pub set : IsWrittenSet pack.objects
  pub grammar : AllByRecursion (λ o. is_object o ≡ true) pack.objects

-- ---- line by line
pub data PackState : Type 0 where
  starting : PackState
  streaming : Option ObjectId → SetState → PackState

abbrev pub ack_line : List ℕ → Option (Option ObjectId)
ack_line line = if bytes_eq (without_lf line) (codes "NAK") then Some None else option_map (λ id. Some id) (id_line (codes "ACK ") line)

abbrev pub ack_stepped : ℕ → Option (Option ObjectId) → Result (Stepped PackState PackText) PktFault
ack_stepped number None = Err (BadRecord number)
ack_stepped number (Some ack) = Ok (onward (streaming ack no_objects))

abbrev pub with_ack : Option ObjectId → Result (Stepped SetState (List StoredObject)) PktFault → Result (Stepped PackState PackText) PktFault
with_ack ack (Err fault) = Err fault
with_ack ack (Ok (onward state)) = Ok (onward (streaming ack state))
with_ack ack (Ok (complete objects)) = Ok (complete (record { ack = ack; objects = objects }))

abbrev pub pack_step : Steps PackState PackText
pack_step number starting flush = Err (BadRecord number)
pack_step number starting (text line) = ack_stepped number (ack_line line)
pack_step number (streaming ack state) line = with_ack ack (set_step is_object number state line)

ack_stepped_own : (number : ℕ) (found : Option (Option ObjectId)) → IsOwnFault (ack_stepped number found)
ack_stepped_own number None = tt
ack_stepped_own number (Some ack) = tt

with_ack_own : (ack : Option ObjectId) (r : Result (Stepped SetState (List StoredObject)) PktFault) → IsOwnFault r → IsOwnFault (with_ack ack r)
with_ack_own ack (Err fault) own = own
with_ack_own ack (Ok (onward state)) own = tt
with_ack_own ack (Ok (complete objects)) own = tt

pub pack_step_own : (number : ℕ) (state : PackState) (line : LineText) → IsOwnFault (pack_step number state line)
pack_step_own number starting flush = tt
pack_step_own number starting (text line) = ack_stepped_own number (ack_line line)
pack_step_own number (streaming ack state) line = with_ack_own ack (set_step is_object number state line) (set_step_own is_object number state line)
