-- The message List: `list`, and a flush.
use Rattle.std.specs.Prelude.{◌≡◌, ◌++◌, ℕ, Bool, true, false, List, [], ◌∷◌, codes, Ok, Err, if◌then◌else◌}
use Rattle.std.specs.Str.{bytes_eq}
use Rattle.vc_pkt.specs.Line.{LineText, flush, text}
use Rattle.vc_pkt.specs.TextLine.{without_lf}
use Rattle.vc_pkt.specs.Message.{onward, complete, Steps, IsOwnFault}
use Rattle.vc_pkt.specs.StreamFaults.{either_own}
use Rattle.vc_pkt.specs.declared.fault.PktFault.TheVariants.{BadRecord}

-- there is one such message
pub data ListText : Type 0 where
  list : ListText

pub record SpellsList (message : ListText) (lines : List LineText) : Type 0 where
  pub first : List ℕ
  pub word : without_lf first ≡ codes "list"
  pub whole : lines ≡ text first ∷ flush ∷ []

-- how it is written
abbrev pub list_lines : List LineText
list_lines = text (codes "list" ++ 10 ∷ []) ∷ flush ∷ []

-- what a line does, before the word and after it
abbrev pub list_step : Steps Bool ListText
list_step number false flush = Err (BadRecord number)
list_step number false (text line) = if bytes_eq (without_lf line) (codes "list") then Ok (onward true) else Err (BadRecord number)
list_step number true flush = Ok (complete list)
list_step number true (text line) = Err (BadRecord number)

pub list_step_own : (number : ℕ) (worded : Bool) (line : LineText) → IsOwnFault (list_step number worded line)
list_step_own number false flush = tt
list_step_own number false (text line) = either_own (bytes_eq (without_lf line) (codes "list")) _ _ tt tt
list_step_own number true flush = tt
list_step_own number true (text line) = tt
