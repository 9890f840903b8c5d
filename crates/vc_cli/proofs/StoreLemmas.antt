-- A store that a command opened and handed back.
use Rattle.std.proofs.Common.{◌≡◌, ◌≢◌, ◌∙◌, ℕ, Bool, true, false, true≢false, List, Ok, Err, ap, refl, subst, sym, inl, inr}
use Rattle.std.proofs.lemmas.Slice.Eq.{bytes_eq-Decides}
use Rattle.std.specs.Prelude.{bytes_eq, IfErr, Option, Result}
use Rattle.std.specs.Io.KnownBytes.{Keeps}
use Rattle.vc_files.specs.FileMap.{FileMap}
use Rattle.vc_cli.specs.Stores.{Contents, GivesBack, IsUnopened, IsUnopenedOr, IsUntoldOr, OrUnopened, OthersStay, StoresStay}
use Rattle.vc_cli.specs.declared.failure.Failure.{Failure}

-- every other store stays where all do
pub others_kept : (store : List ℕ) (old new : Contents) → new ≡ old → OthersStay store old new
others_kept store old new same = λ name other. ap (λ (c : Contents). c name) same

-- what was done to the files that were opened is done to the store
pub gave : (P : FileMap → FileMap → Type 0) (store : List ℕ) (files back : FileMap) (old mid new : Contents) → files ≡ old store → GivesBack store back mid new → P files back → P (old store) (new store)
gave P store files back old mid new opened given h = subst (λ (f : FileMap). P (old store) f) (sym given.here) (subst (λ (f : FileMap). P f back) opened h)

-- two names are one, or they are two
by_name : {P : Type 0} (name store : List ℕ) → (name ≡ store → P) → (name ≢ store → P) → P
by_name {P = P} name store one two = at (bytes_eq name store) refl
  where
    at : (b : Bool) → bytes_eq name store ≡ b → P
    at true is = one ((bytes_eq-Decides name store).0 is)
    at false is = two (λ same. true≢false (sym ((bytes_eq-Decides name store).1 same) ∙ is))

-- a store that was looked at and handed back as it was opened has what it had, as every one
pub stores_back : (store : List ℕ) (files back : FileMap) (old mid new : Contents) → OthersStay store old mid → files ≡ old store → back ≡ files → GivesBack store back mid new → StoresStay old new
stores_back store files back old mid new others opened same given = λ name. by_name name store
    (λ is. ap new is ∙ given.here ∙ same ∙ opened ∙ ap old (sym is))
    (λ other. given.others name other ∙ others name other)

-- what refuses a command over a store's files refuses it over the store
pub over_files : {T : Type 0} (r : Result T Failure) (Cause : Failure → Type 0) → IfErr r Cause → IfErr r (OrUnopened Cause)
over_files (Ok x) Cause told = tt
over_files (Err e) Cause told = inr told

-- what holds of the store of a lock holds of the store that was locked
pub of_lock : (P : FileMap → FileMap → Type 0) (held store : List ℕ) (old mid new : Contents) → held ≡ store → mid ≡ old → P (mid held) (new held) → P (old store) (new store)
of_lock P held store old mid new is same holds = subst (λ (s : List ℕ). P (old s) (new s)) is (subst (λ (c : Contents). P (c held) (new held)) same holds)
