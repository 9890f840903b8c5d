-- The message Report: whether what a push carried was taken, and for each command whether it was accepted (gitprotocol-pack,
-- report-status-v2).
-- own: form, place and use of the line `option new-oid`
use Rattle.std.specs.Prelude.{◌≡◌, ◌≢◌, ◌≤◌, ◌++◌, ◌+◌, ℕ, nat_lt, List, [], ◌∷◌, length, codes, decimal, unwrap_or, Option, Some, None, Result, Ok, Err, if◌then◌else◌}
use Rattle.std.specs.List.{AllByRecursion, flat_map}
use Rattle.std.specs.Str.{bytes_eq}
use Rattle.hex.specs.Hex.{encode_lower}
use Rattle.vc_object.specs.Bytes.{cut}
use Rattle.vc_object.specs.Lines.{IsId, after_word}
use Rattle.vc_object.specs.declared.id.ObjectId.{ObjectId}
use Rattle.vc_pkt.specs.Line.{LineText, flush, text}
use Rattle.vc_pkt.specs.Message.{Stepped, onward, complete, Steps, IsOwnFault}
use Rattle.vc_pkt.specs.StreamFaults.{either_own}
use Rattle.vc_pkt.specs.TextLine.{without_lf}
use Rattle.vc_pkt.specs.declared.fault.PktFault.{PktFault}
use Rattle.vc_pkt.specs.declared.fault.PktFault.TheVariants.{BadRecord, TooMany}
use Rattle.vc_fetch.specs.Advert.{IsName}
use Rattle.vc_fetch.specs.Ids.{id_line}
use Rattle.vc_push.specs.Push.{zero_id, named, max_commands}

-- what is told of a command: the new id, or the text of the reason
pub record ToldText : Type 0 where
  pub name : List ℕ
  pub outcome : Result ObjectId (List ℕ)

-- what was wrong with what was carried, where something was, and what is told of each command
pub record ReportText : Type 0 where
  pub unpack : Option (List ℕ)
  pub told : List ToldText

-- the text that tells the refusal of the first carried body at fault, by its number
abbrev pub unpack_error : ℕ → List ℕ
unpack_error number = codes "error " ++ decimal number

-- ---- lines
-- `unpack ok`, or `unpack` and another text
abbrev pub IsUnpackLine : Option (List ℕ) → List ℕ → Type 0
IsUnpackLine None line = without_lf line ≡ codes "unpack ok"
IsUnpackLine (Some words) line = (without_lf line ≡ codes "unpack " ++ words) × (words ≢ codes "ok")

-- `ok` and the name
pub record IsOkLine (name line : List ℕ) : Type 0 where
  pub legal : IsName name
  pub spelled : without_lf line ≡ codes "ok " ++ name

-- `ng`, the name, a space and the reason
pub record IsNgLine (name reason line : List ℕ) : Type 0 where
  pub legal : IsName name
  pub spelled : without_lf line ≡ codes "ng " ++ (name ++ 32 ∷ reason)

-- `option` and more
pub record IsOptionLine (line : List ℕ) : Type 0 where
  pub words : List ℕ
  pub spelled : without_lf line ≡ codes "option " ++ words

abbrev pub AreOptions : List LineText → Type 0
AreOptions [] = Unit {0}
AreOptions (flush ∷ lines) = ⊥
AreOptions (text line ∷ lines) = IsOptionLine line × AreOptions lines

-- the id of a line `option new-oid`
abbrev pub new_id : List ℕ → Option ObjectId
new_id line = id_line (codes "option new-oid ") line

-- the first of two, where it is there
abbrev pub or_else : Option ObjectId → Option ObjectId → Option ObjectId
or_else (Some id) other = Some id
or_else None other = other

-- the first id that options give; others, also a second id, are passed over
abbrev pub first_new_id : List LineText → Option ObjectId
first_new_id [] = None
first_new_id (flush ∷ lines) = first_new_id lines
first_new_id (text line ∷ lines) = or_else (new_id line) (first_new_id lines)

-- a first line, and the options after it, that tell this of a command: an accepted one has its new id, or zeros without one
abbrev pub IsToldBy : List ℕ → Result ObjectId (List ℕ) → List ℕ → List LineText → Type 0
IsToldBy name (Ok id) line options = IsOkLine name line × AreOptions options × (id ≡ unwrap_or (first_new_id options) zero_id)
IsToldBy name (Err reason) line options = IsNgLine name reason line × (options ≡ [])

abbrev pub AreToldBy : List ToldText → List LineText → Type 0
AreToldBy [] lines = lines ≡ []
AreToldBy (t ∷ ts) [] = ⊥
AreToldBy (t ∷ ts) (flush ∷ lines) = ⊥
AreToldBy (t ∷ ts) (text line ∷ lines) =
    (options others : List LineText) × IsToldBy t.name t.outcome line options × AreToldBy ts others × (lines ≡ options ++ others)

-- no more commands are told of than a push may have
pub record SpellsReport (report : ReportText) (lines : List LineText) : Type 0 where
  pub first : List ℕ
  pub others : List LineText
  pub begins : IsUnpackLine report.unpack first
  pub each : AreToldBy report.told others
  pub few : length report.told ≤ max_commands
  pub whole : lines ≡ text first ∷ (others ++ flush ∷ [])

-- ---- how it is written
abbrev pub unpack_text : Option (List ℕ) → List ℕ
unpack_text None = codes "unpack ok"
unpack_text (Some words) = codes "unpack " ++ words

abbrev pub ok_text : List ℕ → List ℕ
ok_text name = codes "ok " ++ name

abbrev pub new_id_text : ObjectId → List ℕ
new_id_text id = codes "option new-oid " ++ encode_lower id.0

abbrev pub ng_text : List ℕ → List ℕ → List ℕ
ng_text name reason = codes "ng " ++ (name ++ 32 ∷ reason)

abbrev pub text_line : List ℕ → LineText
text_line words = text (words ++ 10 ∷ [])

abbrev pub outcome_lines : List ℕ → Result ObjectId (List ℕ) → List LineText
outcome_lines name (Ok id) = text_line (ok_text name) ∷ text_line (new_id_text id) ∷ []
outcome_lines name (Err reason) = text_line (ng_text name reason) ∷ []

abbrev pub told_lines : ToldText → List LineText
told_lines told = outcome_lines told.name told.outcome

abbrev pub report_lines : ReportText → List LineText
report_lines report = text_line (unpack_text report.unpack) ∷ (flat_map told_lines report.told ++ flush ∷ [])

-- the most bytes that one line takes of the name of an accepted command, and of a refused one's name and reason
abbrev pub max_accepted : ℕ
max_accepted = 65512

abbrev pub max_refused : ℕ
max_refused = 65511

-- its text lines fit
abbrev pub IsShortOutcome : List ℕ → Result ObjectId (List ℕ) → Type 0
IsShortOutcome name (Ok id) = length name ≤ max_accepted
IsShortOutcome name (Err reason) = length name + length reason ≤ max_refused

abbrev pub IsShortTold : ToldText → Type 0
IsShortTold told = IsShortOutcome told.name told.outcome

abbrev pub IsShortUnpack : Option (List ℕ) → Type 0
IsShortUnpack None = Unit {0}
IsShortUnpack (Some words) = length words ≤ 65508

abbrev pub IsOutcomeId : Result ObjectId (List ℕ) → Type 0
IsOutcomeId (Ok id) = IsId id
IsOutcomeId (Err reason) = Unit {0}

pub record IsWrittenTold (told : ToldText) : Type 0 where
  pub name : IsName told.name
  pub id : IsOutcomeId told.outcome
  pub short : IsShortTold told

-- the text isn't the one that says that all was taken
abbrev pub IsUnpackText : Option (List ℕ) → Type 0
IsUnpackText None = Unit {0}
IsUnpackText (Some words) = words ≢ codes "ok"

-- a report that is read as it was written
pub record IsWrittenReport (report : ReportText) : Type 0 where
  pub unpack : IsUnpackText report.unpack
  pub short : IsShortUnpack report.unpack
  pub told : AllByRecursion IsWrittenTold report.told
  pub few : length report.told ≤ max_commands

-- ---- line by line
-- an accepted command whose options may still come
pub record Pending : Type 0 where
  pub name : List ℕ
  pub new : Option ObjectId

-- what was told before, and the accepted command of the last line, if that told of one
pub data ReportState : Type 0 where
  unpacking : ReportState
  telling : Option (List ℕ) → List ToldText → Option Pending → ReportState

-- what is told, once no more options come
abbrev pub settled : List ToldText → Option Pending → List ToldText
settled told None = told
settled told (Some p) = told ++ record { name = p.name; outcome = Ok (unwrap_or p.new zero_id) } ∷ []

abbrev pub unpack_of : Option (List ℕ) → Option (Option (List ℕ))
unpack_of None = None
unpack_of (Some words) = if bytes_eq words (codes "ok") then Some None else Some (Some words)

abbrev pub unpack_line : List ℕ → Option (Option (List ℕ))
unpack_line line = unpack_of (after_word (codes "unpack ") (without_lf line))

abbrev pub unpacked : ℕ → Option (Option (List ℕ)) → Result (Stepped ReportState ReportText) PktFault
unpacked number None = Err (BadRecord number)
unpacked number (Some unpack) = Ok (onward (telling unpack [] None))

-- what a line says: an accepted command, a refused one, an option, or nothing that stands there
pub data Said : Type 0 where
  accepts : List ℕ → Said
  refuses : List ℕ → List ℕ → Said
  opts : Option ObjectId → Said
  nothing : Said

abbrev pub accepts_or : Option (List ℕ) → Said
accepts_or None = nothing
accepts_or (Some name) = accepts name

abbrev pub ok_said : List ℕ → Said
ok_said words = accepts_or (named words)

abbrev pub refuses_or : Option (List ℕ) → List ℕ → Said
refuses_or None reason = nothing
refuses_or (Some name) reason = refuses name reason

abbrev pub ng_parts : Option (List ℕ × List ℕ) → Said
ng_parts None = nothing
ng_parts (Some parts) = refuses_or (named parts.0) parts.1

abbrev pub ng_said : List ℕ → Said
ng_said words = ng_parts (cut 32 words)

abbrev pub said_as : Option (List ℕ) → (List ℕ → Said) → Said → Said
said_as None says other = other
said_as (Some words) says other = says words

unfoldable pub said : List ℕ → Said
said line =
    said_as (after_word (codes "ok ") (without_lf line)) ok_said
    (said_as (after_word (codes "ng ") (without_lf line)) ng_said
    (said_as (after_word (codes "option ") (without_lf line)) (λ words. opts (new_id line)) nothing))

-- one more command, where there is room for it
abbrev pub told_more : List ToldText → Result (Stepped ReportState ReportText) PktFault → Result (Stepped ReportState ReportText) PktFault
told_more told next = if nat_lt (length told) max_commands then next else Err TooMany

-- an option counts only after an accepted command, and the first new id alone
abbrev pub opted : ℕ → Option (List ℕ) → List ToldText → Option Pending → Option ObjectId → Result (Stepped ReportState ReportText) PktFault
opted number unpack told None new = Err (BadRecord number)
opted number unpack told (Some p) new = Ok (onward (telling unpack told (Some (record { name = p.name; new = or_else p.new new }))))

abbrev pub told_by : ℕ → Option (List ℕ) → List ToldText → Option Pending → Said → Result (Stepped ReportState ReportText) PktFault
told_by number unpack told pending nothing = Err (BadRecord number)
told_by number unpack told pending (accepts name) =
    told_more (settled told pending) (Ok (onward (telling unpack (settled told pending) (Some (record { name = name; new = None })))))
told_by number unpack told pending (refuses name reason) =
    told_more (settled told pending) (Ok (onward (telling unpack (settled told pending ++ record { name = name; outcome = Err reason } ∷ []) None)))
told_by number unpack told pending (opts new) = opted number unpack told pending new

abbrev pub report_step : Steps ReportState ReportText
report_step number unpacking flush = Err (BadRecord number)
report_step number unpacking (text line) = unpacked number (unpack_line line)
report_step number (telling unpack told pending) flush = Ok (complete (record { unpack = unpack; told = settled told pending }))
report_step number (telling unpack told pending) (text line) = told_by number unpack told pending (said line)

unpacked_own : (number : ℕ) (found : Option (Option (List ℕ))) → IsOwnFault (unpacked number found)
unpacked_own number None = tt
unpacked_own number (Some unpack) = tt

opted_own : (number : ℕ) (unpack : Option (List ℕ)) (told : List ToldText) (pending : Option Pending) (new : Option ObjectId) → IsOwnFault (opted number unpack told pending new)
opted_own number unpack told None new = tt
opted_own number unpack told (Some p) new = tt

told_by_own : (number : ℕ) (unpack : Option (List ℕ)) (told : List ToldText) (pending : Option Pending) (s : Said) → IsOwnFault (told_by number unpack told pending s)
told_by_own number unpack told pending nothing = tt
told_by_own number unpack told pending (accepts name) = either_own (nat_lt (length (settled told pending)) max_commands) _ _ tt tt
told_by_own number unpack told pending (refuses name reason) = either_own (nat_lt (length (settled told pending)) max_commands) _ _ tt tt
told_by_own number unpack told pending (opts new) = opted_own number unpack told pending new

pub report_step_own : (number : ℕ) (state : ReportState) (line : LineText) → IsOwnFault (report_step number state line)
report_step_own number unpacking flush = tt
report_step_own number unpacking (text line) = unpacked_own number (unpack_line line)
report_step_own number (telling unpack told pending) flush = tt
report_step_own number (telling unpack told pending) (text line) = told_by_own number unpack told pending (said line)
