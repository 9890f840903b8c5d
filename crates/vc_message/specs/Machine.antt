-- What a message of bytes is to the machine, and by which number it refuses bytes that are none.
use Rattle.std.specs.Prelude.{◌≡◌, ◌≢◌, ◌<◌, ◌^◌, ◌⊎◌, ◌++◌, ℕ, List, map, Option, Some, None, Result, Ok, Err, option_map}
use Rattle.std.specs.FinMap.{get}
use Rattle.std.specs.List.{AllByRecursion, flat_map}
use Rattle.vc_format.specs.Git.{bytes_of_id}
use Rattle.vc_object.specs.ObjectFault.{BodyFault}
use Rattle.vc_object.specs.declared.fault.ObjectFault.{ObjectFault}
use Rattle.vc_object.specs.declared.id.ObjectId.{ObjectId}
use Rattle.vc_pkt.specs.Line.{spelling}
use Rattle.vc_pkt.specs.Message.{FirstFault, IsSpelledBy}
use Rattle.vc_pkt.specs.declared.fault.PktFault.{PktFault}
use Rattle.vc_pkt.specs.declared.fault.PktFault.TheVariants.{BadLength, BadRecord, CutMessage, SizeMismatch, TooLarge, TooMany}
use Rattle.vc_fetch.specs.Advert.{AdvertText}
use Rattle.vc_fetch.specs.Pack.{PackText}
use Rattle.vc_push.specs.Push.{Carried, PushText}
use Rattle.vc_push.specs.Reason.{text_number}
use Rattle.vc_push.specs.Report.{ReportText, ToldText, unpack_error}
use Rattle.vc_push_rules.specs.Steps.{fault_number}
use Rattle.vc_model.specs.Message.{Message, Told}
use Rattle.vc_model.specs.Message.Message.{Advert, Error, ListRefs, Pack, Push, Report, Want}
use Rattle.vc_model.specs.Object.{Id, Objects}
use Rattle.vc_model.specs.Refs.{RefName, Refs}
use Rattle.vc_rules.specs.OpenPushes.{AreBrought}
use Rattle.vc_rules.specs.Verdicts.{machine_command}
use Rattle.vc_message.specs.AnyMessage.{MessageText, a_list, a_pack, a_push, a_report, a_want, an_advert, an_error, IsWrittenMessage, SpellsMessage, any_step, beginning, message_lines}

-- ---- kind by kind
-- the refs and the value of HEAD are those that are advertised
pub record IsAdvert (m : Message) (t : AdvertText) : Type 0 where
  pub refs : Refs
  pub is : m ≡ Advert (option_map bytes_of_id t.head) refs
  pub same : (n : RefName) → get refs n ≡ option_map bytes_of_id (get t.refs n)

-- the objects stand under their names
pub record IsPack (m : Message) (t : PackText) : Type 0 where
  pub objects : Objects
  pub is : m ≡ Pack (option_map bytes_of_id t.ack) objects
  pub brought : AreBrought (Ok t.objects) objects

-- the number that refuses the first body at fault, where there is one
abbrev pub IsRefusalOf : Carried → Option ℕ → Type 0
IsRefusalOf (Ok objects) refusal = refusal ≡ None
IsRefusalOf (Err bad) refusal = (fault : ObjectFault) × BodyFault bad.kind bad.body fault × (refusal ≡ Some (fault_number fault))

-- where a body is at fault, nothing is carried
pub record IsPush (m : Message) (t : PushText) : Type 0 where
  pub refusal : Option ℕ
  pub objects : Objects
  pub is : m ≡ Push t.atomic refusal (map machine_command t.commands) objects
  pub refused : IsRefusalOf t.carried refusal
  pub brought : AreBrought t.carried objects

-- `error` and the digits tell this number; own: any other text tells 0
abbrev pub TellsNumber : List ℕ → ℕ → Type 0
TellsNumber words n = ((n < 2 ^ 64) × (words ≡ unpack_error n)) ⊎ (((k : ℕ) → k < 2 ^ 64 → words ≢ unpack_error k) × (n ≡ 0))

-- what the first line of a report tells
abbrev pub IsUnpackedAs : Option (List ℕ) → Option ℕ → Type 0
IsUnpackedAs None refusal = refusal ≡ None
IsUnpackedAs (Some words) refusal = (n : ℕ) × TellsNumber words n × (refusal ≡ Some n)

-- the text of a reason is its number, and 0 where no reason has it
abbrev pub machine_outcome : Result ObjectId (List ℕ) → Result Id ℕ
machine_outcome (Ok id) = Ok (bytes_of_id id)
machine_outcome (Err words) = Err (text_number words)

abbrev pub machine_told : ToldText → Told
machine_told t = record { name = t.name; outcome = machine_outcome t.outcome }

pub record IsReport (m : Message) (t : ReportText) : Type 0 where
  pub refusal : Option ℕ
  pub is : m ≡ Report refusal (map machine_told t.told)
  pub unpacked : IsUnpackedAs t.unpack refusal

-- ---- any kind
-- the machine's message is what the text says
abbrev pub TextOf : Message → MessageText → Type 0
TextOf m a_list = m ≡ ListRefs
TextOf m (an_advert t) = IsAdvert m t
TextOf m (a_want t) = m ≡ Want (map bytes_of_id t.wants) (map bytes_of_id t.haves)
TextOf m (a_pack t) = IsPack m t
TextOf m (a_push t) = IsPush m t
TextOf m (a_report t) = IsReport m t
TextOf m (an_error words) = m ≡ Error words

-- the bytes are read as the message
pub record Reads (bytes : List ℕ) (m : Message) : Type 0 where
  pub text : MessageText
  pub is : TextOf m text
  pub spelled : IsSpelledBy SpellsMessage text bytes

-- it is so of the message, and of what is behind it, where the reader's bytes begin with one
abbrev pub FirstRead : Option (List ℕ) → (Message → List ℕ → Type 0) → Type 0
FirstRead before IsSo = (m : Message) (bytes rest : List ℕ) → before ≡ Some (bytes ++ rest) → Reads bytes m → IsSo m rest

-- the message is written as the bytes, and they are read as it
pub record IsWritten (m : Message) (bytes : List ℕ) : Type 0 where
  pub text : MessageText
  pub is : TextOf m text
  pub written : IsWrittenMessage text
  pub spelled : bytes ≡ flat_map spelling (message_lines text)
  pub reads : Reads bytes m

-- the number of each refusal
abbrev pub pkt_number : PktFault → ℕ
pkt_number (BadLength place) = 80
pkt_number (BadRecord place) = 81
pkt_number SizeMismatch = 82
pkt_number CutMessage = 83
pkt_number TooMany = 84
pkt_number TooLarge = 3

-- the bytes are no message, and are refused with the number of their first fault
pub record IsUnread (bytes : List ℕ) (n : ℕ) : Type 0 where
  pub fault : PktFault
  pub first : FirstFault any_step beginning bytes fault
  pub number : n ≡ pkt_number fault

-- no text stands for a number that other texts have too, and no body is at fault: what the machine has of the message is all
abbrev pub IsPlain : Message → Type 0
IsPlain (Push atomic refusal commands objects) = refusal ≡ None
IsPlain (Report refusal told) = (refusal ≢ Some 0) × AllByRecursion (λ t. t.outcome ≢ Err 0) told
IsPlain _ = Unit {0}
