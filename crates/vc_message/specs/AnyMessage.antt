-- A message of any kind: its lines are those of its kind, and its first line tells the kind.
use Rattle.std.specs.Prelude.{◌≤◌, ℕ, Bool, false, List, [], length, Result, Ok, Err}
use Rattle.std.specs.FinMap.{empty}
use Rattle.vc_pkt.specs.Line.{LineText}
use Rattle.vc_pkt.specs.Message.{Stepped, onward, complete, Steps, IsOwnFault}
use Rattle.vc_pkt.specs.declared.fault.PktFault.{PktFault}
use Rattle.vc_pkt.specs.declared.fault.PktFault.TheVariants.{BadRecord}
use Rattle.vc_fetch.specs.Advert.{AdvertText, RefIds, SpellsAdvert, IsWrittenAdvert, advert_lines, advert_step, advert_step_own}
use Rattle.vc_fetch.specs.ErrorMessage.{SpellsError, error_lines, error_step, error_step_own, max_words}
use Rattle.vc_fetch.specs.ListMessage.{ListText, list, SpellsList, list_lines, list_step, list_step_own}
use Rattle.vc_fetch.specs.Pack.{PackText, PackState, starting, SpellsPack, IsWrittenPack, pack_lines, pack_step, pack_step_own}
use Rattle.vc_fetch.specs.Want.{WantText, WantState, wanting, SpellsWant, IsWrittenWant, want_lines, want_step, want_step_own}
use Rattle.vc_push.specs.Push.{PushText, PushState, commanding, no_commands, SpellsPush, IsWrittenPush, push_lines, push_step, push_step_own}
use Rattle.vc_push.specs.Report.{ReportText, ReportState, unpacking, SpellsReport, IsWrittenReport, report_lines, report_step, report_step_own}

pub data MessageText : Type 0 where
  a_list : MessageText
  an_advert : AdvertText → MessageText
  a_want : WantText → MessageText
  a_pack : PackText → MessageText
  a_push : PushText → MessageText
  a_report : ReportText → MessageText
  an_error : List ℕ → MessageText

-- the lines are the message, as its kind has it
abbrev pub SpellsMessage : MessageText → List LineText → Type 0
SpellsMessage a_list lines = SpellsList list lines
SpellsMessage (an_advert advert) lines = SpellsAdvert advert lines
SpellsMessage (a_want want) lines = SpellsWant want lines
SpellsMessage (a_pack pack) lines = SpellsPack pack lines
SpellsMessage (a_push push) lines = SpellsPush push lines
SpellsMessage (a_report report) lines = SpellsReport report lines
SpellsMessage (an_error words) lines = SpellsError words lines

-- ---- how it is written
abbrev pub message_lines : MessageText → List LineText
message_lines a_list = list_lines
message_lines (an_advert advert) = advert_lines advert
message_lines (a_want want) = want_lines want
message_lines (a_pack pack) = pack_lines pack
message_lines (a_push push) = push_lines push
message_lines (a_report report) = report_lines report
message_lines (an_error words) = error_lines words

-- a message that is read as it was written
abbrev pub IsWrittenMessage : MessageText → Type 0
IsWrittenMessage a_list = Unit {0}
IsWrittenMessage (an_advert advert) = IsWrittenAdvert advert
IsWrittenMessage (a_want want) = IsWrittenWant want
IsWrittenMessage (a_pack pack) = IsWrittenPack pack
IsWrittenMessage (a_push push) = IsWrittenPush push
IsWrittenMessage (a_report report) = IsWrittenReport report
IsWrittenMessage (an_error words) = length words ≤ max_words

-- ---- line by line
-- before the first line, or what the lines so far are of a message of a kind
pub data AnyState : Type 0 where
  beginning : AnyState
  in_list : Bool → AnyState
  in_advert : RefIds → AnyState
  in_want : WantState → AnyState
  in_pack : PackState → AnyState
  in_push : PushState → AnyState
  in_report : ReportState → AnyState
  in_error : Unit {0} → AnyState

-- what a line does
abbrev pub Read : Type 0
Read = Result (Stepped AnyState MessageText) PktFault

-- what a line does to a message of a kind, as one of any
abbrev pub lifted : {S M : Type 0} → (S → AnyState) → (M → MessageText) → Result (Stepped S M) PktFault → Read
lifted state text (Err fault) = Err fault
lifted state text (Ok (onward s)) = Ok (onward (state s))
lifted state text (Ok (complete m)) = Ok (complete (text m))

abbrev pub as_list : Result (Stepped Bool ListText) PktFault → Read
as_list r = lifted in_list (λ _. a_list) r

abbrev pub as_advert : Result (Stepped RefIds AdvertText) PktFault → Read
as_advert r = lifted in_advert an_advert r

abbrev pub as_want : Result (Stepped WantState WantText) PktFault → Read
as_want r = lifted in_want a_want r

abbrev pub as_pack : Result (Stepped PackState PackText) PktFault → Read
as_pack r = lifted in_pack a_pack r

abbrev pub as_push : Result (Stepped PushState PushText) PktFault → Read
as_push r = lifted in_push a_push r

abbrev pub as_report : Result (Stepped ReportState ReportText) PktFault → Read
as_report r = lifted in_report a_report r

abbrev pub as_error : Result (Stepped (Unit {0}) (List ℕ)) PktFault → Read
as_error r = lifted in_error an_error r

-- the first of two, where the line is right there, else the other
abbrev pub or_next : Read → Read → Read
or_next (Ok next) other = Ok next
or_next (Err fault) other = other

-- the kind is the one that takes the first line; where none does, the line is at fault
abbrev pub first_step : ℕ → LineText → Read
first_step number line =
    or_next (as_list (list_step number false line))
    (or_next (as_want (want_step number (wanting []) line))
    (or_next (as_pack (pack_step number starting line))
    (or_next (as_report (report_step number unpacking line))
    (or_next (as_error (error_step number tt line))
    (or_next (as_push (push_step number (commanding no_commands) line))
    (or_next (as_advert (advert_step number empty line)) (Err (BadRecord number))))))))

abbrev pub any_step : Steps AnyState MessageText
any_step number beginning line = first_step number line
any_step number (in_list s) line = as_list (list_step number s line)
any_step number (in_advert s) line = as_advert (advert_step number s line)
any_step number (in_want s) line = as_want (want_step number s line)
any_step number (in_pack s) line = as_pack (pack_step number s line)
any_step number (in_push s) line = as_push (push_step number s line)
any_step number (in_report s) line = as_report (report_step number s line)
any_step number (in_error s) line = as_error (error_step number s line)

lifted_own : {S M : Type 0} (state : S → AnyState) (text : M → MessageText) (r : Result (Stepped S M) PktFault) → IsOwnFault r → IsOwnFault (lifted state text r)
lifted_own state text (Err fault) own = own
lifted_own state text (Ok (onward s)) own = tt
lifted_own state text (Ok (complete m)) own = tt

or_next_own : (a b : Read) → IsOwnFault b → IsOwnFault (or_next a b)
or_next_own (Ok next) b own = tt
or_next_own (Err fault) b own = own

first_step_own : (number : ℕ) (line : LineText) → IsOwnFault (first_step number line)
first_step_own number line =
    or_next_own (as_list (list_step number false line)) _
    (or_next_own (as_want (want_step number (wanting []) line)) _
    (or_next_own (as_pack (pack_step number starting line)) _
    (or_next_own (as_report (report_step number unpacking line)) _
    (or_next_own (as_error (error_step number tt line)) _
    (or_next_own (as_push (push_step number (commanding no_commands) line)) _
    (or_next_own (as_advert (advert_step number empty line)) _ tt))))))

pub any_step_own : (number : ℕ) (state : AnyState) (line : LineText) → IsOwnFault (any_step number state line)
any_step_own number beginning line = first_step_own number line
any_step_own number (in_list s) line = lifted_own in_list (λ _. a_list) (list_step number s line) (list_step_own number s line)
any_step_own number (in_advert s) line = lifted_own in_advert an_advert (advert_step number s line) (advert_step_own number s line)
any_step_own number (in_want s) line = lifted_own in_want a_want (want_step number s line) (want_step_own number s line)
any_step_own number (in_pack s) line = lifted_own in_pack a_pack (pack_step number s line) (pack_step_own number s line)
any_step_own number (in_push s) line = lifted_own in_push a_push (push_step number s line) (push_step_own number s line)
any_step_own number (in_report s) line = lifted_own in_report a_report (report_step number s line) (report_step_own number s line)
any_step_own number (in_error s) line = lifted_own in_error an_error (error_step number s line) (error_step_own number s line)
