-- The message Error: `ERR` and a text.
use Rattle.std.specs.Prelude.{◌≡◌, ◌++◌, ℕ, List, [], ◌∷◌, codes, Option, Some, None, Result, Ok, Err}
use Rattle.vc_object.specs.Lines.{after_word}
use Rattle.vc_pkt.specs.Line.{LineText, flush, text}
use Rattle.vc_pkt.specs.TextLine.{without_lf}
use Rattle.vc_pkt.specs.Message.{Stepped, complete, Steps, IsOwnFault}
use Rattle.vc_pkt.specs.declared.fault.PktFault.{PktFault}
use Rattle.vc_pkt.specs.declared.fault.PktFault.TheVariants.{BadRecord}

-- the most bytes of a text that fits in a line after `ERR`
abbrev pub max_words : ℕ
max_words = 65511

pub record SpellsError (words : List ℕ) (lines : List LineText) : Type 0 where
  pub first : List ℕ
  pub spelled : without_lf first ≡ codes "ERR " ++ words
  pub whole : lines ≡ text first ∷ []

-- how it is written
abbrev pub error_lines : List ℕ → List LineText
error_lines words = text ((codes "ERR " ++ words) ++ 10 ∷ []) ∷ []

abbrev pub error_of : ℕ → Option (List ℕ) → Result (Stepped (Unit {0}) (List ℕ)) PktFault
error_of number (Some words) = Ok (complete words)
error_of number None = Err (BadRecord number)

-- what the one line does
abbrev pub error_step : Steps (Unit {0}) (List ℕ)
error_step number state flush = Err (BadRecord number)
error_step number state (text line) = error_of number (after_word (codes "ERR ") (without_lf line))

error_of_own : (number : ℕ) (found : Option (List ℕ)) → IsOwnFault (error_of number found)
error_of_own number (Some words) = tt
error_of_own number None = tt

pub error_step_own : (number : ℕ) (state : Unit {0}) (line : LineText) → IsOwnFault (error_step number state line)
error_step_own number state flush = tt
error_step_own number state (text line) = error_of_own number (after_word (codes "ERR ") (without_lf line))
