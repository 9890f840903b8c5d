-- What comes of reading a text from the front, as a relation of the text and its outcome.
use Rattle.std.specs.Prelude.{◌≡◌, ◌+◌, ℕ, List, length}
use Rattle.vc_expression.specs.declared.fault.ParseFault.{ParseFault}
use Rattle.vc_expression.specs.declared.fault.ParseFault.TheVariants.{BadSyntax, Memory}

-- something is read and a rest is left, or the text goes wrong where a rest begins
pub data Outcome (A : Type 0) : Type 0 where
  Read : A → List ℕ → Outcome A
  Bad : List ℕ → Outcome A

-- what comes after an outcome: the next reading behind what was read, and nothing behind what went wrong
abbrev pub Onward : {A B : Type 0} → (A → List ℕ → Outcome B → Type 0) → Outcome B → Outcome A → Type 0
Onward next outcome (Read a rest) = next a rest outcome
Onward next outcome (Bad rest) = outcome ≡ Bad rest

-- one reading after another
abbrev pub Then : {A B : Type 0} → (Outcome A → Type 0) → (A → List ℕ → Outcome B → Type 0) → Outcome B → Type 0
Then {A} First next outcome = (first : Outcome A) × First first × Onward next outcome first

-- the place is where the rest begins
abbrev pub IsPlace : List ℕ → List ℕ → ℕ → Type 0
IsPlace source rest place = place + length rest ≡ length source

-- the refusal names the place where an end of the source goes wrong
abbrev pub FaultAt : {A : Type 0} → List ℕ → (Outcome A → Type 0) → ParseFault → Type 0
FaultAt source Reads (BadSyntax place) = (rest : List ℕ) × Reads (Bad rest) × IsPlace source rest place
FaultAt source Reads Memory = Unit {0}
