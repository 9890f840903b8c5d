-- A message of any kind, and its reader, without where they lie in memory.
use Rattle.std.specs.Prelude.{◌≡◌, ◌≤◌, vec_len, Option, Some, None, Result, Ok, Err}
use Rattle.std.specs.List.{All}
use Rattle.vc_pkt.specs.declared.fault.PktFault.{PktFault}
use Rattle.vc_pkt.specs.declared.fault.PktError.{PktError}
use Rattle.vc_pkt.specs.declared.fault.PktError.TheVariants.{Refused}
use Rattle.vc_fetch.specs.Advert.{HasShortNames}
use Rattle.vc_fetch.specs.AdvertView.{advert_text, advert_state}
use Rattle.vc_fetch.specs.PackView.{pack_text, pack_state}
use Rattle.vc_fetch.specs.WantView.{want_text, want_state}
use Rattle.vc_fetch.specs.ErrorMessage.{max_words}
use Rattle.vc_push.specs.Push.{IsShort}
use Rattle.vc_push.specs.PushView.{command_of, push_text, push_state}
use Rattle.vc_push.specs.Report.{IsShortUnpack, IsShortTold}
use Rattle.vc_push.specs.ReportView.{bytes_of, told_of, report_text, report_state}
use Rattle.vc_message.specs.AnyMessage.{MessageText, a_list, an_advert, a_want, a_pack, a_push, a_report, an_error, AnyState, beginning, in_list, in_advert, in_want, in_pack, in_push, in_report, in_error}
use Rattle.vc_message.specs.declared.message.Message.{Message}
use Rattle.vc_message.specs.declared.message.Message.TheVariants as kinds
use Rattle.vc_message.specs.declared.reader.AnyReader.{AnyReader}
use Rattle.vc_message.specs.declared.reader.AnyReader.TheVariants as readers

abbrev pub message_text : Message → MessageText
message_text (kinds.List message) = a_list
message_text (kinds.Advert message) = an_advert (advert_text message)
message_text (kinds.Want message) = a_want (want_text message)
message_text (kinds.Pack message) = a_pack (pack_text message)
message_text (kinds.Push message) = a_push (push_text message)
message_text (kinds.Report message) = a_report (report_text message)
message_text (kinds.Error message) = an_error message.text.items

abbrev pub reader_state : AnyReader → AnyState
reader_state readers.Start = beginning
reader_state (readers.List reader) = in_list reader.worded
reader_state (readers.Advert reader) = in_advert (advert_state reader)
reader_state (readers.Want reader) = in_want (want_state reader)
reader_state (readers.Pack reader) = in_pack (pack_state reader)
reader_state (readers.Push reader) = in_push (push_state reader)
reader_state (readers.Report reader) = in_report (report_state reader)
reader_state (readers.Error reader) = in_error tt

-- its names and texts fit in their lines, as its kind asks where it is written
abbrev pub HasShortLines : Message → Type 0
HasShortLines (kinds.List message) = Unit {0}
HasShortLines (kinds.Advert message) = HasShortNames (advert_text message)
HasShortLines (kinds.Want message) = Unit {0}
HasShortLines (kinds.Pack message) = Unit {0}
HasShortLines (kinds.Push message) = All (λ c. IsShort (command_of c)) message.commands.items
HasShortLines (kinds.Report message) = IsShortUnpack (bytes_of message.unpack) × All (λ t. IsShortTold (told_of t)) message.told.items
HasShortLines (kinds.Error message) = vec_len message.text ≤ max_words

-- what was tried is what is there, or a refusal where nothing is
abbrev pub IsTaken : {X : Type 0} → Result X PktError → Option X → Type 0
IsTaken tried (Some x) = tried ≡ Ok x
IsTaken tried None = (fault : PktFault) × (tried ≡ Err (Refused fault))
