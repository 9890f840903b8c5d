-- The message Push: commands that change refs, a flush, and the objects that they need (gitprotocol-pack).
use Rattle.std.specs.Prelude.{◌≡◌, ◌≤◌, ◌<◌, ◌==◌, ◌||◌, ◌++◌, ℕ, Bool, true, false, not, nat_lt, List, [], ◌∷◌, length, map, codes, replicate, find, Option, Some, None, Result, Ok, Err, if◌then◌else◌}
use Rattle.std.specs.List.{AllByRecursion, list_all, list_any, slice_split}
use Rattle.std.specs.Str.{bytes_eq}
use Rattle.hex.specs.Hex.{encode_lower}
use Rattle.vc_object.specs.Bytes.{cut}
use Rattle.vc_object.specs.Decoding.{StoredObject}
use Rattle.vc_object.specs.Items.{◌>>=◌}
use Rattle.vc_object.specs.Lines.{IsId, after_word, split}
use Rattle.vc_object.specs.Object.{IsObject, max_body}
use Rattle.vc_object.specs.ObjectFault.{BodyFault}
use Rattle.vc_object.specs.ObjectId.{id_eq}
use Rattle.vc_object.specs.declared.fault.ObjectFault.{ObjectFault}
use Rattle.vc_object.specs.declared.id.ObjectId.{ObjectId}
use Rattle.vc_pkt.specs.Carried.{with_object, with_objects}
use Rattle.vc_pkt.specs.Line.{LineText, flush, text}
use Rattle.vc_pkt.specs.Message.{Stepped, onward, complete, Steps, IsOwnFault}
use Rattle.vc_pkt.specs.ObjectStream.{IsStream, Gathered, between, gather_step, is_any}
use Rattle.vc_pkt.specs.StreamFaults.{either_own, gather_step_own}
use Rattle.vc_pkt.specs.TextLine.{without_lf}
use Rattle.vc_pkt.specs.Written.{stream_lines, IsWrittenSet}
use Rattle.vc_pkt.specs.declared.fault.PktFault.{PktFault}
use Rattle.vc_pkt.specs.declared.fault.PktFault.TheVariants.{BadRecord, TooMany}
use Rattle.vc_fetch.specs.Advert.{IsName, is_name}
use Rattle.vc_fetch.specs.Ids.{WritesId, id_of}
use Rattle.vc_fetch.specs.Pack.{is_object}

-- own: the most commands of a push
abbrev pub max_commands : ℕ
max_commands = 256

-- what a ref is to become: from the old id to the new one, where zeros stand for no value
pub record CommandText : Type 0 where
  pub old : ObjectId
  pub new : ObjectId
  pub name : List ℕ

-- no object's name
abbrev pub zero_id : ObjectId
zero_id = record { 0 = replicate 20 0 }

-- the objects that are carried, as a set by name, or the first of them that is out of its kind's grammar or over the limit
abbrev pub Carried : Type 0
Carried = Result (List StoredObject) StoredObject

-- what stands before the objects: whether all refs are to be set or none, and the commands
pub record HeadText : Type 0 where
  pub atomic : Bool
  pub commands : List CommandText

pub record PushText : Type 0 where
  pub atomic : Bool
  pub commands : List CommandText
  pub carried : Carried

abbrev pub with_carried : HeadText → Carried → PushText
with_carried head carried = record { atomic = head.atomic; commands = head.commands; carried = carried }

-- ---- lines
-- the digits of both ids and the name, with single spaces between
abbrev pub spelled_command : List ℕ → List ℕ → List ℕ → List ℕ
spelled_command old new name = old ++ 32 ∷ (new ++ 32 ∷ name)

pub record IsCommandLine (command : CommandText) (line : List ℕ) : Type 0 where
  pub old : List ℕ
  pub new : List ℕ
  pub writes_old : WritesId command.old old
  pub writes_new : WritesId command.new new
  pub name : IsName command.name
  pub spelled : without_lf line ≡ spelled_command old new command.name

-- a push is atomic if the word `atomic` is among its capabilities, which spaces (32) part
abbrev pub asks_atomic : List ℕ → Bool
asks_atomic capabilities = list_any (λ word. bytes_eq word (codes "atomic")) (slice_split (λ byte. byte == 32) capabilities)

-- the first has a NUL and any capabilities after its name; words other than `atomic` are passed over
pub record IsFirstCommandLine (atomic : Bool) (command : CommandText) (line : List ℕ) : Type 0 where
  pub old : List ℕ
  pub new : List ℕ
  pub capabilities : List ℕ
  pub writes_old : WritesId command.old old
  pub writes_new : WritesId command.new new
  pub name : IsName command.name
  pub asks : atomic ≡ asks_atomic capabilities
  pub spelled : without_lf line ≡ spelled_command old new (command.name ++ 0 ∷ capabilities)

-- a line for each command
abbrev pub AreCommandLines : List CommandText → List LineText → Type 0
AreCommandLines [] lines = lines ≡ []
AreCommandLines (command ∷ commands) [] = ⊥
AreCommandLines (command ∷ commands) (flush ∷ lines) = ⊥
AreCommandLines (command ∷ commands) (text line ∷ lines) = IsCommandLine command line × AreCommandLines commands lines

-- every new id is zero: nothing is needed, and no stream follows
abbrev pub only_deletes : List CommandText → Bool
only_deletes commands = list_all (λ c. id_eq c.new zero_id) commands

-- the first of the objects that is at fault, or all of them as a set
abbrev pub carried_or : Option StoredObject → List StoredObject → Carried
carried_or None objects = Ok (with_objects [] objects)
carried_or (Some bad) objects = Err bad

abbrev pub carried_of : List StoredObject → Carried
carried_of objects = carried_or (find (λ o. not (is_object o)) objects) objects

-- what follows the commands and their flush: a stream of objects, each of which may be at fault, or nothing
abbrev pub SpellsCarried : Bool → Carried → List LineText → Type 0
SpellsCarried true carried lines = (lines ≡ []) × (carried ≡ Ok [])
SpellsCarried false carried lines = (objects : List StoredObject) × IsStream is_any objects lines × (carried ≡ carried_of objects)

-- at least one command, and not too many
pub record SpellsPush (push : PushText) (lines : List LineText) : Type 0 where
  pub command : CommandText
  pub commands : List CommandText
  pub first : List ℕ
  pub others : List LineText
  pub stream : List LineText
  pub some : push.commands ≡ command ∷ commands
  pub begins : IsFirstCommandLine push.atomic command first
  pub each : AreCommandLines commands others
  pub few : length push.commands ≤ max_commands
  pub carries : SpellsCarried (only_deletes push.commands) push.carried stream
  pub whole : lines ≡ text first ∷ (others ++ flush ∷ stream)

-- what the first carried body at fault is refused by, where there is one
abbrev pub FaultOf : Carried → Option ObjectFault → Type 0
FaultOf (Ok objects) fault = fault ≡ None
FaultOf (Err bad) None = IsObject bad.kind bad.body
FaultOf (Err bad) (Some fault) = BodyFault bad.kind bad.body fault

-- ---- how it is written
abbrev pub command_text : CommandText → List ℕ
command_text command = encode_lower command.old.0 ++ 32 ∷ (encode_lower command.new.0 ++ 32 ∷ command.name)

-- a line of it, and more after the name
abbrev pub written_command : List ℕ → CommandText → LineText
written_command tail command = text ((command_text command ++ tail) ++ 10 ∷ [])

-- the words of the first line: `atomic` is among them if all refs are to be set or none
abbrev pub written_words : Bool → List ℕ
written_words false = codes "report-status-v2"
written_words true = codes "report-status-v2 atomic"

abbrev pub capabilities : Bool → List ℕ
capabilities atomic = 0 ∷ written_words atomic

-- the first line has the capabilities after its name
abbrev pub command_lines : Bool → List CommandText → List LineText
command_lines atomic [] = []
command_lines atomic (command ∷ commands) = written_command (capabilities atomic) command ∷ map (written_command []) commands

-- the objects that are brought: all, or the one at fault
abbrev pub brought : Carried → List StoredObject
brought (Ok objects) = objects
brought (Err bad) = bad ∷ []

abbrev pub carried_lines : Bool → Carried → List LineText
carried_lines true carried = []
carried_lines false carried = stream_lines (brought carried)

abbrev pub push_lines : PushText → List LineText
push_lines push = command_lines push.atomic push.commands ++ flush ∷ carried_lines (only_deletes push.commands) push.carried

-- the most bytes of a name that fits in a line with two ids and any of the capabilities
abbrev pub max_named : ℕ
max_named = 65409

abbrev pub IsShort : CommandText → Type 0
IsShort command = length command.name ≤ max_named

pub record IsWrittenCommand (command : CommandText) : Type 0 where
  pub old : IsId command.old
  pub new : IsId command.new
  pub name : IsName command.name
  pub short : IsShort command

-- what is carried is a set of objects, or one that is at fault; nothing is carried where every new id is zero
abbrev pub IsWrittenCarried : Bool → Carried → Type 0
IsWrittenCarried true carried = carried ≡ Ok []
IsWrittenCarried false (Ok objects) = IsWrittenSet objects × AllByRecursion (λ o. is_object o ≡ true) objects
IsWrittenCarried false (Err bad) = (length bad.body ≤ max_body) × (is_object bad ≡ false)

pub record IsWrittenPush (push : PushText) : Type 0 where
  pub some : 0 < length push.commands
  pub few : length push.commands ≤ max_commands
  pub commands : AllByRecursion IsWrittenCommand push.commands
  pub carried : IsWrittenCarried (only_deletes push.commands) push.carried

-- ---- line by line
-- the name of a command
abbrev pub named : List ℕ → Option (List ℕ)
named name = if is_name name then Some name else None

-- it and the capabilities, which stand after a NUL in the first line
abbrev pub name_cut : Bool → List ℕ → Option (List ℕ × List ℕ)
name_cut true words = cut 0 words
name_cut false words = Some (words, [])

-- the command of a line, which may be the first, and whether the line asks for an atomic push
unfoldable pub command_line : Bool → List ℕ → Option (CommandText × Bool)
command_line is_first line = do
  parts ← split 40 (without_lf line)
  old ← id_of parts.0
  rest ← after_word (32 ∷ []) parts.1
  others ← split 40 rest
  new ← id_of others.0
  words ← after_word (32 ∷ []) others.1
  cuts ← name_cut is_first words
  name ← named cuts.0
  Some (record { old = old; new = new; name = name }, asks_atomic cuts.1)

-- one object more; the first that is at fault stays
abbrev pub carry : StoredObject → Carried → Carried
carry object (Err bad) = Err bad
carry object (Ok objects) = if is_object object then Ok (with_object object objects) else Err object

pub data PushState : Type 0 where
  commanding : HeadText → PushState
  streaming : HeadText → Gathered Carried → PushState

-- before the first line
abbrev pub no_commands : HeadText
no_commands = record { atomic = false; commands = [] }

-- whether no command came before
abbrev pub is_none_yet : List CommandText → Bool
is_none_yet [] = true
is_none_yet (c ∷ cs) = false

abbrev pub with_command : HeadText → CommandText × Bool → HeadText
with_command head found = record { atomic = head.atomic || found.1; commands = head.commands ++ found.0 ∷ [] }

-- one more command, where there is room for it
abbrev pub one_more : ℕ → HeadText → Option (CommandText × Bool) → Result (Stepped PushState PushText) PktFault
one_more number head None = Err (BadRecord number)
one_more number head (Some found) = if nat_lt (length head.commands) max_commands then Ok (onward (commanding (with_command head found))) else Err TooMany

-- the flush after the commands, of which there is one or more
abbrev pub flushed : HeadText → Result (Stepped PushState PushText) PktFault
flushed head =
    if only_deletes head.commands then Ok (complete (with_carried head (Ok [])))
    else Ok (onward (streaming head (record { set = Ok []; progress = between })))

abbrev pub commands_end : ℕ → HeadText → Result (Stepped PushState PushText) PktFault
commands_end number head = if is_none_yet head.commands then Err (BadRecord number) else flushed head

abbrev pub with_commands : HeadText → Result (Stepped (Gathered Carried) Carried) PktFault → Result (Stepped PushState PushText) PktFault
with_commands head (Err fault) = Err fault
with_commands head (Ok (onward state)) = Ok (onward (streaming head state))
with_commands head (Ok (complete carried)) = Ok (complete (with_carried head carried))

abbrev pub push_step : Steps PushState PushText
push_step number (commanding head) flush = commands_end number head
push_step number (commanding head) (text line) = one_more number head (command_line (is_none_yet head.commands) line)
push_step number (streaming head state) line = with_commands head (gather_step carry is_any number state line)

one_more_own : (number : ℕ) (head : HeadText) (found : Option (CommandText × Bool)) → IsOwnFault (one_more number head found)
one_more_own number head None = tt
one_more_own number head (Some found) = either_own (nat_lt (length head.commands) max_commands) _ _ tt tt

commands_end_own : (number : ℕ) (head : HeadText) → IsOwnFault (commands_end number head)
commands_end_own number head = either_own (is_none_yet head.commands) _ _ tt (either_own (only_deletes head.commands) _ _ tt tt)

with_commands_own : (head : HeadText) (r : Result (Stepped (Gathered Carried) Carried) PktFault) → IsOwnFault r → IsOwnFault (with_commands head r)
with_commands_own head (Err fault) own = own
with_commands_own head (Ok (onward state)) own = tt
with_commands_own head (Ok (complete carried)) own = tt

pub push_step_own : (number : ℕ) (state : PushState) (line : LineText) → IsOwnFault (push_step number state line)
push_step_own number (commanding head) flush = commands_end_own number head
push_step_own number (commanding head) (text line) = one_more_own number head (command_line (is_none_yet head.commands) line)
push_step_own number (streaming head state) line = with_commands_own head (gather_step carry is_any number state line) (gather_step_own carry is_any number state line)
