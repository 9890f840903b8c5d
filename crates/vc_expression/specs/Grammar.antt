-- Revision expressions, by cases on their bytes.
use Rattle.std.specs.Prelude.{◌≡◌, ◌≢◌, ◌⊎◌, ℕ, List, [], ◌∷◌, ◌++◌, codes, false, nat_eq}
use Rattle.std.specs.List.{starts_with}
use Rattle.vc_expression.specs.Digits.{IsNumber}
use Rattle.vc_expression.specs.Base.{IsBase}
use Rattle.vc_object.specs.Kind.{word}
use Rattle.vc_expression.specs.declared.token.Step.{Step}
use Rattle.vc_expression.specs.declared.token.Step.TheVariants as steps

-- a base and steps, without where they stand
pub record RevText : Type 0 where
  pub base : List ℕ
  pub steps : List Step

pub data ExprText : Type 0 where
  Object : RevText → ExprText
  InTree : RevText → List ℕ → ExprText
  InIndex : List ℕ → ExprText

-- a number, or nothing for 1
abbrev pub IsCount : List ℕ → ℕ → Type 0
IsCount digits n = ((digits ≡ []) × (n ≡ 1)) ⊎ IsNumber digits n

abbrev pub IsStep : List ℕ → Step → Type 0
IsStep text (steps.Parent n) = (digits : List ℕ) × (text ≡ codes "^" ++ digits) × IsCount digits n
IsStep text (steps.Ancestor n) = (digits : List ℕ) × (text ≡ codes "~" ++ digits) × IsCount digits n
IsStep text steps.Peel = text ≡ codes "^{}"
IsStep text (steps.PeelTo kind) = text ≡ codes "^{" ++ (word kind ++ codes "}")

-- steps one after another
abbrev pub IsSteps : List ℕ → List Step → Type 0
IsSteps text [] = text ≡ []
IsSteps text (step ∷ others) = (front rest : List ℕ) × IsStep front step × IsSteps rest others × (text ≡ front ++ rest)

abbrev pub IsRev : List ℕ → RevText → Type 0
IsRev text rev = (rest : List ℕ) × IsBase rev.base × IsSteps rest rev.steps × (text ≡ rev.base ++ rest)

-- what may follow a colon at the start, for the index: neither nothing, nor what names a stage or a message
pub record IsPlainPath (path : List ℕ) : Type 0 where
  pub some : path ≢ []
  pub slash : starts_with nat_eq path (codes "/") ≡ false
  pub stage0 : starts_with nat_eq path (codes "0:") ≡ false
  pub stage1 : starts_with nat_eq path (codes "1:") ≡ false
  pub stage2 : starts_with nat_eq path (codes "2:") ≡ false
  pub stage3 : starts_with nat_eq path (codes "3:") ≡ false

abbrev pub IsExpr : List ℕ → ExprText → Type 0
IsExpr text (Object rev) = IsRev text rev
IsExpr text (InTree rev path) = (front : List ℕ) × IsRev front rev × (text ≡ front ++ (codes ":" ++ path))
IsExpr text (InIndex path) = (text ≡ codes ":0:" ++ path) ⊎ ((text ≡ codes ":" ++ path) × IsPlainPath path)
