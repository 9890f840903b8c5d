-- Reading an expression from the front: what is read and what is left, or where the text goes wrong.
use Rattle.std.specs.Prelude.{◌≡◌, ◌≢◌, ◌⊎◌, ℕ, List, [], ◌∷◌, ◌++◌, codes, true, nat_eq, Option, Some, None}
use denote.Ref.{Bor}
use Rattle.std.specs.List.{starts_with}
use Rattle.vc_expression.specs.Base.{IsBase, name_of, after_name}
use Rattle.vc_expression.specs.Steps.{step_at}
use Rattle.vc_expression.specs.Seen.{Found, Other, Fault}
use Rattle.vc_expression.specs.Grammar.{RevText, ExprText, Object, InTree, InIndex, IsPlainPath}
use Rattle.vc_expression.specs.Outcome.{Outcome, Read, Bad, IsPlace}
use Rattle.vc_expression.specs.declared.token.Step.{Step}
use Rattle.vc_expression.specs.declared.fault.ParseFault.{ParseFault}
use Rattle.vc_expression.specs.declared.fault.ParseFault.TheVariants.{BadSyntax, Memory}

-- the steps read from the front, one after another, and what is left
abbrev pub Reads : List ℕ → List Step → List ℕ → Type 0
Reads text [] rest = text ≡ rest
Reads text (step ∷ others) rest = (after : List ℕ) × (step_at text ≡ Found step after) × Reads after others rest

-- a base and as many steps as stand there, and what is left
pub record RevRead (text : List ℕ) (rev : RevText) (rest : List ℕ) : Type 0 where
  pub base : rev.base ≡ name_of text
  pub is_base : IsBase rev.base
  pub steps : Reads (after_name text) rev.steps rest
  pub other : step_at rest ≡ Other

-- a step goes wrong where the rest begins
abbrev pub BadStep : List ℕ → List ℕ → Type 0
BadStep text rest = (steps : List Step) × Reads text steps rest × (step_at rest ≡ Fault)

-- no base stands at the front, or a step behind it goes wrong
abbrev pub BadRev : List ℕ → List ℕ → Type 0
BadRev text rest = ((rest ≡ text) × (IsBase (name_of text) → ⊥)) ⊎ (IsBase (name_of text) × BadStep (after_name text) rest)

-- what comes of reading a base and its steps
abbrev pub ReadsRev : List ℕ → Outcome RevText → Type 0
ReadsRev text (Read rev rest) = RevRead text rev rest
ReadsRev text (Bad rest) = BadRev text rest

-- what comes of reading steps, up to what is none
abbrev pub ReadsSteps : List ℕ → Outcome (List Step) → Type 0
ReadsSteps text (Read steps rest) = Reads text steps rest × (step_at rest ≡ Other)
ReadsSteps text (Bad rest) = BadStep text rest

-- nothing, a slash, or the number of a later stage
abbrev pub IsBadPath : List ℕ → Type 0
IsBadPath path =
    (path ≡ []) ⊎ ((starts_with nat_eq path (codes "/") ≡ true)
    ⊎ ((starts_with nat_eq path (codes "1:") ≡ true)
    ⊎ ((starts_with nat_eq path (codes "2:") ≡ true) ⊎ (starts_with nat_eq path (codes "3:") ≡ true))))

abbrev pub NoColon : List ℕ → Type 0
NoColon text = (rest : List ℕ) → text ≢ codes ":" ++ rest

-- a form with a colon goes wrong at the colon; else the base or a step does; else a byte is left over
abbrev pub BadExpr : List ℕ → List ℕ → Type 0
BadExpr text rest =
    ((rest ≡ text) × ((path : List ℕ) × (text ≡ codes ":" ++ path) × IsBadPath path))
    ⊎ (NoColon text
    × (BadRev text rest ⊎ ((rev : RevText) × RevRead text rev rest × (rest ≢ []) × NoColon rest)))

-- the text goes wrong at the place
abbrev pub IsBadAt : List ℕ → ℕ → Type 0
IsBadAt source place = (rest : List ℕ) × BadExpr source rest × IsPlace source rest place

abbrev pub ExprError : List ℕ → ParseFault → Type 0
ExprError source (BadSyntax place) = IsBadAt source place
ExprError source Memory = Unit {0}

-- what follows a colon at the start, read: where the path begins, and the path
abbrev pub IndexPath : List ℕ → Option (ℕ × Bor (List ℕ)) → Type 0
IndexPath path None = IsBadPath path
IndexPath path (Some found) = ((found.0 ≡ 3) × (path ≡ codes "0:" ++ found.1.now)) ⊎ ((found.0 ≡ 1) × (found.1.now ≡ path) × IsPlainPath path)

-- an expression as it is read
abbrev pub ReadsExpr : List ℕ → ExprText → Type 0
ReadsExpr text (Object rev) = RevRead text rev []
ReadsExpr text (InTree rev path) = RevRead text rev (codes ":" ++ path)
ReadsExpr text (InIndex path) = (text ≡ codes ":0:" ++ path) ⊎ ((text ≡ codes ":" ++ path) × IsPlainPath path)
