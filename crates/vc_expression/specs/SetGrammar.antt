-- Sets, by cases on their bytes.
use Rattle.std.specs.Prelude.{◌≡◌, ◌≢◌, ℕ, List, [], ◌∷◌, ◌++◌, codes}
use Rattle.std.specs.List.{AllByRecursion}
use Rattle.vc_expression.specs.Grammar.{RevText, IsRev, IsCount}
use Rattle.vc_expression.specs.declared.suffix.Dots.{Dots}
use Rattle.vc_expression.specs.declared.suffix.Dots.TheVariants.{Two, Three}

pub data EndsText : Type 0 where
  Both : RevText → RevText → EndsText
  From : RevText → EndsText
  To : RevText → EndsText

-- a term without where it stands
pub data TermText : Type 0 where
  Include : RevText → TermText
  Exclude : RevText → TermText
  Parents : RevText → TermText
  ExcludeParents : RevText → TermText
  Only : RevText → TermText
  Since : RevText → ℕ → TermText
  Range : EndsText → TermText
  Symmetric : EndsText → TermText

-- not both ends are left out
abbrev pub IsEnds : List ℕ → List ℕ → EndsText → Type 0
IsEnds dots text (Both a b) = (x y : List ℕ) × IsRev x a × IsRev y b × (text ≡ x ++ (dots ++ y))
IsEnds dots text (From a) = (x : List ℕ) × IsRev x a × (text ≡ x ++ dots)
IsEnds dots text (To b) = (y : List ℕ) × IsRev y b × (text ≡ dots ++ y)

abbrev pub IsTerm : List ℕ → TermText → Type 0
IsTerm text (Include rev) = IsRev text rev
IsTerm text (Exclude rev) = (x : List ℕ) × IsRev x rev × (text ≡ codes "^" ++ x)
IsTerm text (Parents rev) = (x : List ℕ) × IsRev x rev × (text ≡ x ++ codes "^@")
IsTerm text (ExcludeParents rev) = (x : List ℕ) × IsRev x rev × (text ≡ codes "^" ++ (x ++ codes "^@"))
IsTerm text (Only rev) = (x : List ℕ) × IsRev x rev × (text ≡ x ++ codes "^!")
IsTerm text (Since rev n) = (x digits : List ℕ) × IsRev x rev × IsCount digits n × (n ≢ 0) × (text ≡ x ++ (codes "^-" ++ digits))
IsTerm text (Range ends) = IsEnds (codes "..") text ends
IsTerm text (Symmetric ends) = IsEnds (codes "...") text ends

-- one or more spaces
abbrev pub AreSpaces : List ℕ → Type 0
AreSpaces text = (text ≢ []) × AllByRecursion (λ b. b ≡ 32) text

-- one or more terms, with spaces between them
abbrev pub IsSet : List ℕ → List TermText → Type 0
IsSet text [] = ⊥
IsSet text (term ∷ []) = IsTerm text term
IsSet text (term ∷ other ∷ others) = (a spaces rest : List ℕ) × IsTerm a term × AreSpaces spaces × IsSet rest (other ∷ others) × (text ≡ a ++ (spaces ++ rest))

abbrev pub dots_text : Dots → List ℕ
dots_text Two = codes ".."
dots_text Three = codes "..."
