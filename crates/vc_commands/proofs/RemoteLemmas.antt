-- For commands that meet other processes.
use Rattle.std.proofs.Common.{◌≡◌, ◌⊎◌, ◌∙◌, List, [], ◌∷◌, ℕ, Bool, Option, Ok, Err, IfErr, IsErrAnd, inl, inr, refl, subst, sym}
use Rattle.std.proofs.KnownBytes.{Keeps-refl}
use Rattle.std.specs.Prelude.{Result}
use Rattle.vc_cli.specs.Failure.{IsFault}
use Rattle.vc_cli.specs.Stores.{Contents, OthersStay, StoresStay}
use Rattle.vc_cli.specs.declared.failure.Failure.{Failure}
use Rattle.vc_commands.specs.Remote.{HangsUp, IsUndone}
use Rattle.vc_files.specs.FileMap.{FileMap}
use Rattle.vc_sending.specs.declared.item.PushItem.{PushItem}
use Rattle.vc_push_items.specs.PushWords.{AreItemsFor}

-- nothing changes, and the failure is handed on
pub undone : {T : Type 0} (old new : Contents) (before : Option (List ℕ)) (Cause : Failure → Type 0) (failure : Failure) (r : Result T Failure) → IsErrAnd r (λ e. e ≡ failure) → Cause failure → StoresStay old new
    → IsErrAnd r (IsUndone old new before before Cause)
undone old new before Cause failure (Err e) is why stay = record { cause = subst Cause (sym is) why; stores = stay; printed = Keeps-refl before }
undone old new before Cause failure (Ok x) is why stay = absurd is

-- ---- the end of an exchange

-- what was told of it as a failure is the command's
pub hangs_err : {T : Type 0} (told done : Result T Failure) (failure : Failure) → told ≡ Err failure → IsErrAnd done (λ e. e ≡ failure) → HangsUp told done
hangs_err {T = T} told (Err e) failure was is = subst (λ (t : Result T Failure). HangsUp t (Err e)) (sym was) (subst (λ (f : Failure). HangsUp {T = T} (Err f) (Err e)) is refl)
hangs_err told (Ok x) failure was is = absurd is

hung : (done : Result (Unit {0}) Failure) → IfErr done IsFault → HangsUp (Ok tt) done
hung (Ok u) fault = inl refl
hung (Err e) fault = inr fault

-- what was told as done is so, but for a fault
pub hangs_done : (told done : Result (Unit {0}) Failure) → told ≡ Ok tt → IfErr done IsFault → HangsUp told done
hangs_done told done was fault = subst (λ (t : Result (Unit {0}) Failure). HangsUp t done) (sym was) (hung done fault)

pub hangs_ok : {T : Type 0} (told : Result T Failure) (x : T) → told ≡ Ok x → HangsUp told (Ok x)
hangs_ok {T = T} told x was = subst (λ (t : Result T Failure). HangsUp t (Ok x)) (sym was) (inl refl)

pub hangs_fault : {T : Type 0} (told done : Result T Failure) (x : T) → told ≡ Ok x → IsErrAnd done IsFault → HangsUp told done
hangs_fault {T = T} told done x was fault = subst (λ (t : Result T Failure). HangsUp t done) (sym was) (inr fault)

-- ---- the store of a lock

-- it was opened as what it had
pub opened_at : (files : FileMap) (held store : List ℕ) (mid old : Contents) → held ≡ store → mid ≡ old → files ≡ mid held → files ≡ old store
opened_at files held store mid old is same opened = subst (λ (s : List ℕ). files ≡ old s) is (subst (λ (c : Contents). files ≡ c held) same opened)

-- the others stay as it is opened
pub others_at : (held store : List ℕ) (mid old opened : Contents) → held ≡ store → mid ≡ old → OthersStay held mid opened → OthersStay store old opened
others_at held store mid old opened is same others = subst (λ (s : List ℕ). OthersStay s old opened) is (subst (λ (c : Contents). OthersStay held c opened) same others)

-- and as it is handed back
pub others_on : (store : List ℕ) (old mid new : Contents) → OthersStay store old mid → OthersStay store mid new → OthersStay store old new
others_on store old mid new early late = λ name other. late name other ∙ early name other

-- ---- the items of a push

abbrev are_none : List PushItem → Type 0
are_none [] = Unit {0}
are_none (item ∷ items) = ⊥

-- there are none only if no word asks for one
pub no_items : (content : FileMap) (words : List (List ℕ)) → AreItemsFor content words [] → words ≡ []
no_items content [] are = refl
no_items content (word ∷ words) are = absurd (subst are_none are.4 tt)
