-- What a call does to a source of bytes: how often the source has failed, counted up to the greatest u64, and whether it can fail.
use Rattle.std.specs.Prelude.{◌≡◌, ◌⊎◌, ◌+◌, ℕ, min}
use Rattle.vc_files.specs.Failures.{greatest_count}

-- the count after one more failure
abbrev pub one_more : ℕ → ℕ
one_more count = min (count + 1) greatest_count

-- What a call tells of the failures of its source. `IsFailure`, that the call answers by one, comes exactly where the source failed
-- in the call, once, and only where it could. A call makes no source fail that could not.
pub record TellsFailures {S : Type 0} (failed : S → ℕ) (can_fail : S → Type 0) (old new : S) (IsFailure : Type 0) : Type 0 where
  pub once : IsFailure → failed new ≡ one_more (failed old)
  pub none : (IsFailure → ⊥) → failed new ≡ failed old
  pub could : IsFailure → can_fail old
  pub calm : can_fail new → can_fail old

-- What a call of a node tells of a reader that fails: it answers by that once the reader has failed, and never else, unless a fault of
-- the node's own came behind it.
abbrev pub TellsLoss : {S : Type 0} → (S → ℕ) → (S → Type 0) → S → S → Type 0 → Type 0 → Type 0
TellsLoss failed can_fail old new IsLost IsFault = TellsFailures failed can_fail old new IsLost ⊎ (IsFault × TellsFailures failed can_fail old new (Unit {0}))

-- a reader, and how often it has failed
pub record Counted (R : Type 0) : Type 0 where
  pub reader : R
  pub failed : ℕ
