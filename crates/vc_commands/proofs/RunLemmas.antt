-- For runs: how they end early, and what is told of it.
use Rattle.std.proofs.Common.{◌≡◌, ◌≢◌, ◌⊎◌, ◌∙◌, ℕ, Bool, true, false, List, Option, Ok, Err, IfErr, IsErr, IsErrAnd, true≢false, is_err, ap, inl, inr, refl, subst, sym}
use Rattle.std.specs.Prelude.{Result}
use Rattle.vc_cli.specs.Failure.{IsFault, status_of}
use Rattle.vc_cli.specs.Stores.{Contents, StoresStay}
use Rattle.vc_cli.specs.declared.failure.Failure.{Failure}
use Rattle.vc_cli.specs.declared.failure.Failure.TheVariants.{Fault}
use Rattle.vc_commands.specs.Running.{AllStays, EndsSo, IsExplained, IsTold}
use Rattle.vc_working.specs.Trees.{Trees}

fault_is_3 : (e : Failure) → IsFault e → status_of e ≡ 3
fault_is_3 (Fault fault) is = refl
fault_is_3 _ is = absurd is

told_3 : (e : Failure) (status : ℕ) → IsFault e → IsTold (status_of e) status → status ≡ 3
told_3 e status is (inl told) = told ∙ fault_is_3 e is
told_3 e status is (inr told) = told

-- a failure ends it with its status, or with 3
pub ends_at : (Ends : ℕ → Type 0) (failure : Failure) (r : Result ℕ Failure) → IsErrAnd r (λ e. e ≡ failure) → ((status : ℕ) → IsTold (status_of failure) status → Ends status) → EndsSo Ends r
ends_at Ends failure (Err e) is told = λ status at. told status (subst (λ (f : Failure). IsTold (status_of f) status) is at)
ends_at Ends failure (Ok status) is told = absurd is

-- what follows from how a run ends
pub ends_map : (A B : ℕ → Type 0) (r : Result ℕ Failure) → ((status : ℕ) → A status → B status) → EndsSo A r → EndsSo B r
ends_map A B (Ok status) f ends = f status ends
ends_map A B (Err e) f ends = λ status told. f status (ends status told)

-- what was explained: help, or what is off, or a fault
pub ends_explained : (Ends : ℕ → Type 0) (r : Result ℕ Failure) → IsExplained r → ((status : ℕ) → r ≡ Ok status → (status ≡ 0) ⊎ IsTold 2 status → Ends status) → ((status : ℕ) → status ≡ 3 → Ends status) → EndsSo Ends r
ends_explained Ends (Ok status) (inl zero) told early = told status refl (inl zero)
ends_explained Ends (Ok status) (inr two) told early = told status refl (inr (inl two))
ends_explained Ends (Err e) fault told early = λ status at. early status (told_3 e status fault at)

pub never_err : (r : Result ℕ Failure) (status : ℕ) → r ≡ Ok status → IsErr r → ⊥
never_err r status is err = true≢false (sym (sym (ap is_err is) ∙ err))

-- one of two
pub not_true : (b : Bool) → (b ≡ true → ⊥) → b ≡ false
not_true true never = absurd (never refl)
not_true false never = refl

-- nothing changes where nothing was opened
pub all_stay : (old : Contents) (was : Trees) → AllStays old old was was
all_stay old was = (λ name. refl, refl)
