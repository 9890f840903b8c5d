-- Reading a set from the front: what comes of each term, and where the text goes wrong.
use Rattle.std.specs.Prelude.{◌≡◌, ◌≢◌, ◌⊎◌, ◌==◌, ◌++◌, ℕ, List, [], ◌∷◌, true, false, Option, Some, None, MatchBool, nat_eq, length, drop, codes, if◌then◌else◌}
use Rattle.std.specs.List.{starts_with}
use Rattle.vc_expression.specs.Base.{name_of}
use Rattle.vc_expression.specs.Steps.{counted_at}
use Rattle.vc_expression.specs.Grammar.{RevText}
use Rattle.vc_expression.specs.Outcome.{Outcome, Read, Bad, Then, IsPlace}
use Rattle.vc_expression.specs.Faults.{ReadsRev}
use Rattle.vc_expression.specs.SetGrammar.{TermText, EndsText, Include, Exclude, Parents, ExcludeParents, Only, Since, Range, Symmetric, Both, From, To, IsTerm}
use Rattle.vc_expression.specs.declared.fault.ParseFault.{ParseFault}
use Rattle.vc_expression.specs.declared.fault.ParseFault.TheVariants.{BadSyntax, Memory}
use Rattle.vc_expression.specs.declared.suffix.Dots.{Dots}
use Rattle.vc_expression.specs.declared.suffix.Dots.TheVariants.{Two, Three}

-- what stands behind a base and its steps: the end of a term, and what follows it
pub data Behind : Type 0 where
  AllParents : List ℕ → Behind
  Itself : List ℕ → Behind
  SinceParent : ℕ → List ℕ → Behind
  UpTo : Dots → List ℕ → Behind
  Nothing : Behind
  Wrong : Behind

-- behind `^-`: a number that is not 0
abbrev pub since_at : Option (ℕ × List ℕ) → Behind
since_at None = Wrong
since_at (Some found) = if found.0 == 0 then Wrong else SinceParent found.0 found.1

-- the dots at the front, of which a third one is one
abbrev pub dots_at : List ℕ → Option (Dots × List ℕ)
dots_at text =
    if starts_with nat_eq text (codes "...") then Some (Three, drop 3 text)
    else if starts_with nat_eq text (codes "..") then Some (Two, drop 2 text)
    else None

abbrev pub or_dots : Option (Dots × List ℕ) → Behind
or_dots None = Nothing
or_dots (Some found) = UpTo found.0 found.1

abbrev pub behind_at : List ℕ → Behind
behind_at text =
    if starts_with nat_eq text (codes "^@") then AllParents (drop 2 text)
    else if starts_with nat_eq text (codes "^!") then Itself (drop 2 text)
    else if starts_with nat_eq text (codes "^-") then since_at (counted_at (drop 2 text))
    else or_dots (dots_at text)

abbrev pub range_view : Dots → EndsText → TermText
range_view Two ends = Range ends
range_view Three ends = Symmetric ends

-- behind the first end of a range and its dots: no name, or the second end
abbrev pub ReadsFrom : Dots → RevText → List ℕ → Outcome TermText → Type 0
ReadsFrom dots first text outcome =
    MatchBool (length (name_of text) == 0)
    (outcome ≡ Read (range_view dots (From first)) text)
    (Then (ReadsRev text) (λ second rest o. o ≡ Read (range_view dots (Both first second)) rest) outcome)

-- behind the first base of a term and its steps
abbrev pub ReadsBehind : RevText → List ℕ → Behind → Outcome TermText → Type 0
ReadsBehind rev text (AllParents rest) outcome = outcome ≡ Read (Parents rev) rest
ReadsBehind rev text (Itself rest) outcome = outcome ≡ Read (Only rev) rest
ReadsBehind rev text (SinceParent n rest) outcome = outcome ≡ Read (Since rev n) rest
ReadsBehind rev text (UpTo dots rest) outcome = ReadsFrom dots rev rest outcome
ReadsBehind rev text Nothing outcome = outcome ≡ Read (Include rev) text
ReadsBehind rev text Wrong outcome = outcome ≡ Bad text

-- behind `^` and the base and steps that follow it
abbrev pub excluded_at : RevText → List ℕ → Outcome TermText
excluded_at rev text = if starts_with nat_eq text (codes "^@") then Read (ExcludeParents rev) (drop 2 text) else Read (Exclude rev) text

-- how a term begins, and what follows that
pub data Front : Type 0 where
  Excludes : List ℕ → Front
  Dotted : Dots → List ℕ → Front
  Based : Front

abbrev pub or_dotted : Option (Dots × List ℕ) → Front
or_dotted None = Based
or_dotted (Some found) = Dotted found.0 found.1

abbrev pub front_at : List ℕ → Front
front_at text = if starts_with nat_eq text (codes "^") then Excludes (drop 1 text) else or_dotted (dots_at text)

abbrev pub ReadsFront : List ℕ → Front → Outcome TermText → Type 0
ReadsFront text (Excludes rest) outcome = Then (ReadsRev rest) (λ rev behind o. o ≡ excluded_at rev behind) outcome
ReadsFront text (Dotted dots rest) outcome = Then (ReadsRev rest) (λ rev behind o. o ≡ Read (range_view dots (To rev)) behind) outcome
ReadsFront text Based outcome = Then (ReadsRev text) (λ rev behind o. ReadsBehind rev behind (behind_at behind) o) outcome

-- what comes of reading a term
abbrev pub ReadsTerm : List ℕ → Outcome TermText → Type 0
ReadsTerm text outcome = ReadsFront text (front_at text) outcome

-- what follows the spaces at the front
abbrev pub after_spaces : List ℕ → List ℕ
after_spaces [] = []
after_spaces (b ∷ bs) = if b == 32 then after_spaces bs else b ∷ bs

-- how a set ends: with a term at the end of the text, or where it goes wrong
pub data Ending : Type 0 where
  Done : TermText → Ending
  Stopped : List ℕ → Ending

-- the last term that is read: nothing is left behind it; or it goes wrong, or something else than a space is left
abbrev pub EndsWith : List ℕ → Ending → Type 0
EndsWith text (Done term) = ReadsTerm text (Read term [])
EndsWith text (Stopped rest) = ReadsTerm text (Bad rest) ⊎ ((term : TermText) × ReadsTerm text (Read term rest) × (rest ≢ []) × (starts_with nat_eq rest (codes " ") ≡ false))

-- the terms that are read, each with spaces behind it, and how the text ends behind them
abbrev pub ReadsSet : List ℕ → List TermText → Ending → Type 0
ReadsSet text [] ending = EndsWith text ending
ReadsSet text (term ∷ others) ending =
    (rest : List ℕ) × ReadsTerm text (Read term rest) × (starts_with nat_eq rest (codes " ") ≡ true) × ReadsSet (after_spaces rest) others ending

-- the set goes wrong at the place, behind the terms that come before it
abbrev pub IsBadSetAt : List ℕ → ℕ → Type 0
IsBadSetAt source place = (before : List TermText) × (rest : List ℕ) × ReadsSet source before (Stopped rest) × IsPlace source rest place

abbrev pub SetError : List ℕ → ParseFault → Type 0
SetError source (BadSyntax place) = IsBadSetAt source place
SetError source Memory = Unit {0}

-- the term stands at the front, and the rest follows it
abbrev pub TermFound : List ℕ → TermText → List ℕ → Type 0
TermFound text term rest = (a : List ℕ) × IsTerm a term × (text ≡ a ++ rest)
