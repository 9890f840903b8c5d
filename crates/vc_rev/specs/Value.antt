-- What a text denotes: the value of the expression that it is, or the number that refuses it.
use Rattle.std.specs.Prelude.{◌≡◌, ◌⊎◌, ℕ, List, IsSome, Result, Ok, Err}
use Rattle.vc_object.specs.ObjectMap.{ObjectMap}
use Rattle.vc_object.specs.declared.id.ObjectId.{ObjectId}
use Rattle.vc_expression.specs.Faults.{IsBadAt}
use Rattle.vc_expression.specs.Grammar.{ExprText, IsExpr}
use Rattle.vc_rev.specs.Meaning.{Denotes}
use Rattle.vc_rev.specs.Source.{Source, Names, source}
use Rattle.vc_rev.specs.declared.refusal.Refusal.{Refusal}
use Rattle.vc_rev.specs.declared.refusal.Refusal.TheVariants.{Unknown, Ambiguous, TooShort, NoSuchParent, WrongKind, NoSuchPath}

abbrev pub refusal_number : Refusal → ℕ
refusal_number Unknown = 51
refusal_number Ambiguous = 52
refusal_number TooShort = 53
refusal_number NoSuchParent = 54
refusal_number WrongKind = 55
refusal_number NoSuchPath = 56

-- a text that goes wrong somewhere is refused with 50
abbrev pub HasValue : Source → List ℕ → Result ObjectId ℕ → Type 0
HasValue s text (Ok id) = (e : ExprText) × IsExpr text e × Denotes s e (Ok id)
HasValue s text (Err n) =
    (((place : ℕ) × IsBadAt text place) × (n ≡ 50))
    ⊎ ((e : ExprText) × (refusal : Refusal) × IsExpr text e × Denotes s e (Err refusal) × (n ≡ refusal_number refusal))

-- names and objects, where what is stored in the place of a name is found there
abbrev pub whole_source : Names → ObjectMap → Source
whole_source names objects = source names objects (λ id. IsSome (objects id))

-- A text has one value at most, or one refusal, and never both.
abbrev pub HasOneValue : Type 0
HasOneValue = (names : Names) (objects : ObjectMap) (text : List ℕ) (v w : Result ObjectId ℕ) →
    HasValue (whole_source names objects) text v → HasValue (whole_source names objects) text w → v ≡ w
