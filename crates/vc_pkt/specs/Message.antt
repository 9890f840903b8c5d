-- Messages that are read line by line: what lines give, and the first fault of bytes that are no message.
use Rattle.std.specs.Prelude.{◌≡◌, ◌≢◌, ◌+◌, ℕ, List, [], ◌∷◌, ◌++◌, length, Result, Ok, Err}
use Rattle.vc_pkt.specs.Line.{LineText, IsLines, IsPart, IsBad}
use Rattle.vc_pkt.specs.declared.fault.PktFault.{PktFault}
use Rattle.vc_pkt.specs.declared.fault.PktFault.TheVariants.{BadLength, BadRecord, CutMessage}
use Rattle.vc_pkt.specs.declared.fault.PktError.{PktError}
use Rattle.vc_pkt.specs.declared.fault.PktError.TheVariants.{Memory, Refused}

-- what a line does: more lines are to come, or the message ends
pub data Stepped (S M : Type 0) : Type 0 where
  onward : S → Stepped S M
  complete : M → Stepped S M

-- what the line of a number does in a state
abbrev pub Steps : Type 0 → Type 0 → Type 0
Steps S M = ℕ → S → LineText → Result (Stepped S M) PktFault

-- what a line's step and the lines behind it give; the first of these has the number
abbrev pub going : {S M : Type 0} → Result (Stepped S M) PktFault → (S → Result M PktFault) → List LineText → ℕ → Result M PktFault
going (Err fault) rest lines number = Err fault
going (Ok (onward state)) rest lines number = rest state
going (Ok (complete message)) rest [] number = Ok message
going (Ok (complete message)) rest (line ∷ lines) number = Err (BadRecord number)

-- what lines give from a state, the first of them of the number: the message, or the first fault
abbrev pub run : {S M : Type 0} → Steps S M → ℕ → S → List LineText → Result M PktFault
run step number state [] = Err CutMessage
run step number state (line ∷ lines) = going (step number state line) (λ next. run step (number + 1) next lines) lines (number + 1)

-- the bytes are these lines and what follows them
pub record Begins (bytes : List ℕ) (lines : List LineText) (more : List ℕ) : Type 0 where
  pub front : List ℕ
  pub each : IsLines lines front
  pub whole : bytes ≡ front ++ more

-- the faults that a line may have in its place
abbrev pub IsLineFault : PktFault → Type 0
IsLineFault CutMessage = ⊥
IsLineFault (BadLength place) = ⊥
IsLineFault _ = Unit {0}

-- a line is at fault for what it says, and not for where the bytes end
abbrev pub IsOwnFault : {X : Type 0} → Result X PktFault → Type 0
IsOwnFault (Ok x) = Unit {0}
IsOwnFault (Err fault) = IsLineFault fault

-- the bytes are lines that are the message
abbrev pub IsSpelledBy : {M : Type 0} → (M → List LineText → Type 0) → M → List ℕ → Type 0
IsSpelledBy Spells message bytes = (lines : List LineText) × IsLines lines bytes × Spells message lines

module _ {S M : Type 0} (step : Steps S M) (start : S) where
  -- the lines give the message
  abbrev pub GivenBy : M → List LineText → Type 0
  GivenBy message lines = run step 0 start lines ≡ Ok message

  -- nothing is wrong with the lines, but that more must come
  abbrev pub IsUnfinished : List LineText → Type 0
  IsUnfinished lines = run step 0 start lines ≡ Err CutMessage

  -- the first fault of the bytes: lines that are not yet a message come first, and then less than a line,
  -- four bytes that no line begins with, or a line that is wrong in its place; or a whole message comes,
  -- and a byte behind it
  pub data FirstFault (bytes : List ℕ) (fault : PktFault) : Type 0 where
    cut : (lines : List LineText) (rest : List ℕ) → Begins bytes lines rest → IsUnfinished lines → IsPart rest → fault ≡ CutMessage → FirstFault bytes fault
    bad_length : (lines : List LineText) (rest : List ℕ) (begins : Begins bytes lines rest) → IsUnfinished lines → IsBad rest → fault ≡ BadLength (length begins.front) → FirstFault bytes fault
    wrong_line : (lines : List LineText) (line : LineText) (rest : List ℕ) → Begins bytes (lines ++ line ∷ []) rest → IsUnfinished lines → run step 0 start (lines ++ line ∷ []) ≡ Err fault → IsLineFault fault → FirstFault bytes fault
    byte_behind : (lines : List LineText) (rest : List ℕ) (message : M) → Begins bytes lines rest → GivenBy message lines → rest ≢ [] → fault ≡ BadRecord (length lines) → FirstFault bytes fault

  -- the bytes are refused by their first fault, or memory is short
  abbrev pub Refuses : List ℕ → PktError → Type 0
  Refuses bytes Memory = Unit {0}
  Refuses bytes (Refused fault) = FirstFault bytes fault
