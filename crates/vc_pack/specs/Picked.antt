-- The first element of a list that is so, and all of them.
use Rattle.std.specs.Prelude.{◌≡◌, ◌↔◌, ⊤, List, [], ◌∷◌, ◌++◌, Contains}

-- x is the first of xs that is so; those before it are otherwise
pub record IsFirst {X : Type 0} (IsSo IsOtherwise : X → Type 0) (xs : List X) (x : X) : Type 0 where
  pub before : List X
  pub after : List X
  pub place : xs ≡ before ++ x ∷ after
  pub others : (y : X) → Contains before y → IsOtherwise y
  pub here : IsSo x

-- if there is a first element, it is the first of xs that is so
abbrev pub BeginsWithFirst : {X : Type 0} → (X → Type 0) → List X → List X → Type 0
BeginsWithFirst IsSo xs [] = ⊤
BeginsWithFirst IsSo xs (y ∷ ys) = IsFirst IsSo (λ z. ¬ IsSo z) xs y

-- the elements of xs that are so, the first of them first
pub record IsPicked {X : Type 0} (IsSo : X → Type 0) (xs ys : List X) : Type 0 where
  pub members : (y : X) → Contains ys y ↔ (Contains xs y × IsSo y)
  pub first : BeginsWithFirst IsSo xs ys
