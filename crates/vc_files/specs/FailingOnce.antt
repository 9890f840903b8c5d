-- Files of which one call fails.
use Rattle.std.specs.Prelude.{ℕ, ◌+◌, ◌-◌, ◌⊎◌, cond, nat_eq, min, Option, Some, None}
use Rattle.vc_files.specs.Failures.{greatest_count}

-- files, and how many calls pass before the one that fails, or none once it has failed
pub record FailingOnce (F : Type 0) : Type 0 where
  pub files : F
  pub left : Option ℕ

-- what a call leaves of the calls that pass
abbrev pub after_call : Option ℕ → Option ℕ
after_call None = None
after_call (Some n) = cond (nat_eq n 0) None (Some (n - 1))

-- how many calls have failed
abbrev pub failed_calls : Option ℕ → ℕ
failed_calls None = 1
failed_calls (Some n) = 0

-- a call is still to fail
abbrev pub IsToFail : Option ℕ → Type 0
IsToFail None = ⊥
IsToFail (Some n) = Unit {0}

-- how often they have failed
abbrev pub failed_once : {F : Type 0} → (F → ℕ) → FailingOnce F → ℕ
failed_once failed s = min (failed s.files + failed_calls s.left) greatest_count

-- whether they can fail
abbrev pub CanFailOnce : {F : Type 0} → (F → Type 0) → FailingOnce F → Type 0
CanFailOnce can_fail s = IsToFail s.left ⊎ can_fail s.files
