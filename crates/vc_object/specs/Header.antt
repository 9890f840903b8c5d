-- What stands before an object's body (Git user manual, "Object storage format": type, space, size, NUL).
use Rattle.std.specs.Prelude.{◌≡◌, ◌≢◌, ◌≤◌, ◌+◌, ◌-◌, ◌*◌, ℕ, List, [], ◌∷◌, ◌++◌}
use Rattle.std.specs.List.{AllByRecursion}
use Rattle.vc_object.specs.Bytes.{Disagree, Begins}
use Rattle.vc_object.specs.Kind.{front}
use Rattle.vc_object.specs.declared.kind.Kind.{Kind}
use Rattle.vc_object.specs.declared.fault.ObjectFault.{ObjectFault}
use Rattle.vc_object.specs.declared.fault.ObjectFault.TheVariants.{BadHeader, Cut}

-- a decimal digit
abbrev pub IsDigit : ℕ → Type 0
IsDigit d = (48 ≤ d) × (d ≤ 57)

-- a size in decimal: one digit or more, and none behind a first 0
pub record IsSize (digits : List ℕ) : Type 0 where
  pub all : AllByRecursion IsDigit digits
  pub some : digits ≢ []
  pub short : (more : List ℕ) → digits ≡ 48 ∷ more → more ≡ []

-- the number that the digits write behind those of n
abbrev pub number_after : ℕ → List ℕ → ℕ
number_after n [] = n
number_after n (d ∷ ds) = number_after (n * 10 + (d - 48)) ds

-- the number that the digits write
abbrev pub number : List ℕ → ℕ
number digits = number_after 0 digits

-- what comes before a body: its kind, a space, its size and a NUL
abbrev pub header : Kind → List ℕ → List ℕ
header kind size = front kind ++ size ++ 0 ∷ []

-- no NUL yet, and some header begins so; or no header does
abbrev pub HeaderFault : List ℕ → ObjectFault → Type 0
HeaderFault bytes Cut = (kind : Kind) × (size : List ℕ) × IsSize size × Begins bytes (header kind size)
HeaderFault bytes BadHeader = (kind : Kind) (size : List ℕ) → IsSize size → Disagree bytes (header kind size)
HeaderFault bytes _ = ⊥

-- the same of the kind and the space alone
abbrev pub FrontFault : List ℕ → ObjectFault → Type 0
FrontFault bytes Cut = (kind : Kind) × Begins bytes (front kind)
FrontFault bytes BadHeader = (kind : Kind) → Disagree bytes (front kind)
FrontFault bytes _ = ⊥

-- and of what stands behind them
abbrev pub SizeFault : List ℕ → ObjectFault → Type 0
SizeFault bytes Cut = (size : List ℕ) × IsSize size × Begins bytes (size ++ 0 ∷ [])
SizeFault bytes BadHeader = (size : List ℕ) → IsSize size → Disagree bytes (size ++ 0 ∷ [])
SizeFault bytes _ = ⊥

-- no digit comes first
abbrev pub NoDigitFirst : List ℕ → Type 0
NoDigitFirst [] = Unit {0}
NoDigitFirst (b ∷ bs) = IsDigit b → ⊥
