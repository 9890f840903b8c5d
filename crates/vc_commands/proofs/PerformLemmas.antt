-- For commands that are performed under a store's lock, and what is handed on of their results.
use Rattle.std.proofs.Common.{◌≡◌, ◌⊎◌, ◌∙◌, List, ℕ, Bool, Option, None, Some, Ok, Err, IfErr, IfSome, IsErrAnd, OnOk, ap, inl, inr, refl, subst, sym}
use Rattle.std.proofs.KnownBytes.{Keeps-refl}
use Rattle.std.specs.Prelude.{Result}
use Rattle.vc_cli.proofs.StoreLemmas.{others_kept}
use Rattle.vc_arguments.specs.declared.arguments.LocalTask.{LocalTask}
use Rattle.vc_arguments.specs.declared.arguments.LocalTask.TheVariants as local
use Rattle.vc_cli.specs.Stores.{Contents, IsUnopened, IsUnopenedOr, IsUntoldOr}
use Rattle.vc_cli.specs.declared.failure.Failure.{Failure}
use Rattle.vc_commands.specs.Performs.{Found, IsOfBranching, PerformsLocal, StoresObject}
use Rattle.vc_committing.specs.Told.{IsOfOldTold}
use Rattle.vc_files.proofs.FileMapLemmas.{outside_same}
use Rattle.std.specs.FinMap.{get}
use Rattle.std.specs.Io.KnownBytes.{Keeps}
use Rattle.vc_files.specs.FileMap.{FileMap}
use Rattle.vc_object.specs.declared.kind.Kind.{Kind}
use Rattle.vc_reading.specs.HashObject.{LeavesHashed}
use Rattle.vc_reading.specs.HashObject.LeavesHashed.{unstored}
use Rattle.vc_reading.specs.declared.again.Lists.{Lists}
use Rattle.vc_working.specs.Trees.{Trees}

-- what holds of the store of a lock, once it was taken, holds of the store that was to be locked
pub over_lock : (P : List ℕ → Contents → Type 0) (held store : List ℕ) (mid old : Contents) → held ≡ store → mid ≡ old → P held mid → P store old
over_lock P held store mid old is same holds = subst (λ (s : List ℕ). P s old) is (subst (λ (c : Contents). P held c) same holds)

-- ---- what is handed on of a result

pub errs_both : {T : Type 0} (P Q : Failure → Type 0) (r : Result T Failure) → IfErr r P → IfErr r Q → IfErr r (λ e. P e × Q e)
errs_both P Q (Ok x) p q = tt
errs_both P Q (Err e) p q = (p, q)

pub errs_right : {T : Type 0} (P Q : Failure → Type 0) (r : Result T Failure) → IfErr r Q → IfErr r (λ e. P e ⊎ Q e)
errs_right P Q (Ok x) q = tt
errs_right P Q (Err e) q = inr q

known_so : (known : Option (List ℕ)) (P Q R : List ℕ → Type 0) → IfSome known P → IfSome known Q → IfSome known R → IfSome known (λ b. P b × Q b × R b)
known_so None P Q R p q r = tt
known_so (Some b) P Q R p q r = (p, q, r)

-- three facts of a known body
pub done_so : {T : Type 0} (r : Result T Failure) (known : Option (List ℕ)) (P Q R : List ℕ → Type 0) → OnOk r (IfSome known P) → OnOk r (IfSome known Q) → OnOk r (IfSome known R) → OnOk r (IfSome known (λ b. P b × Q b × R b))
done_so (Ok x) known P Q R p q s = known_so known P Q R p q s
done_so (Err e) known P Q R p q s = tt

-- ---- an object that is not stored

none_stored : (known : Option (List ℕ)) (old new : FileMap) (kind : Kind) (before : Option (List ℕ)) (e : Failure) → IsUnopened e → new ≡ old → IfSome known (λ body. LeavesHashed old kind body new before before e)
none_stored None old new kind before e is same = tt
none_stored (Some body) old new kind before e is same = unstored (inl is) same (Keeps-refl before)

-- its body can't be read, or its store can't be opened
pub not_hashed : (honest : Type 0) (store : List ℕ) (old new : Contents) (before known : Option (List ℕ)) (Unread : Failure → Type 0) (kind : Kind) (failure : Failure) (r : Result (Unit {0}) Failure) → IsErrAnd r (λ e. e ≡ failure)
    → (Unread failure ⊎ IsUnopened failure) → new ≡ old → StoresObject honest store old new before before known Unread kind r
not_hashed honest store old new before known Unread kind failure (Err e) is why same = record {
  changed = λ h. tt;
  refused = λ h. at why;
  always = λ h. record { at = λ path outside. ap (λ (c : Contents). get (c store) path) same };
  others = others_kept store old new same;
}
  where
    here : new store ≡ old store
    here = ap (λ (c : Contents). c store) same

    at : (Unread failure ⊎ IsUnopened failure) → (Unread e × (new store ≡ old store) × Keeps before before) ⊎ IfSome known (λ body. LeavesHashed (old store) kind body (new store) before before e)
    at (inl unread) = inl (subst Unread (sym is) unread, here, Keeps-refl before)
    at (inr unopened) = inr (none_stored known (old store) (new store) kind before e (subst IsUnopened (sym is) unopened) here)
not_hashed honest store old new before known Unread kind failure (Ok x) is why same = absurd is

-- ---- a branch

-- why a change of a branch isn't told as done, but for what a terminal was told
pub branching : {T : Type 0} (r : Result T Failure) (old new : Contents) (Cause : Failure → Type 0) (Made : Type 0) (is_terminal : Bool) (before after : Option (List ℕ)) → IfErr r (IsUntoldOr old new before after (IsOfOldTold Cause Made is_terminal before after))
    → IfErr r (IsUnopenedOr old new (IsOfBranching Cause Made))
branching (Ok x) old new Cause Made is_terminal before after told = tt
branching (Err e) old new Cause Made is_terminal before after told = elim told [
  | inl unopened ↦ inl (unopened.0, unopened.1)
  | inr early ↦ elim early [
    | inl cause ↦ inr (inl cause.0)
    | inr made ↦ inr (inr (made.0.0, made.1))
  ]
]

-- ---- a store that isn't locked

-- nothing is done of what a clone is asked
pub unlocked : {F : Type 0} (content : F → FileMap) (is_durable : F → Type 0) (found : Found) (lists : Lists) (store : List ℕ) (old : Contents) (was : Trees) (before : Option (List ℕ)) (task : LocalTask) (e : Failure) → IsUnopened e
    → PerformsLocal content is_durable found lists store old old was was before before task (Err e)
unlocked content is_durable found lists store old was before (local.Add mode work) e is = record {
  added = λ t h. tt;
  refused = λ t h. inl (is, λ name. refl);
  others = λ name other. refl;
  trees = record { here = refl; others = λ s name other. refl };
}
unlocked content is_durable found lists store old was before (local.Unstage path) e is = (record { changed = λ h. tt; refused = λ h. inl (is, λ name. refl); always = λ h. tt; others = λ name other. refl }, refl)
unlocked content is_durable found lists store old was before local.WriteTree e is =
    (record { changed = λ h. tt; refused = λ h. inl (is, λ name. refl, Keeps-refl before); always = λ h. (record { before = λ id damaged. damaged }, outside_same _ (old store)); others = λ name other. refl }, refl)
unlocked content is_durable found lists store old was before (local.Commit words) e is =
    (record { changed = λ h. tt; refused = λ h. inl (is, λ name. refl, Keeps-refl before); always = λ h. tt; others = λ name other. refl }, refl)
unlocked content is_durable found lists store old was before (local.Branch name revision) e is =
    (record { changed = λ h. tt; refused = λ h. inl (is, λ name. refl); always = λ h. tt; others = λ name other. refl }, refl)
unlocked content is_durable found lists store old was before (local.BranchDelete name) e is =
    (record { changed = λ h. tt; refused = λ h. inl (is, λ name. refl); always = λ h. tt; others = λ name other. refl }, refl)
unlocked content is_durable found lists store old was before local.PackRefs e is =
    (record { changed = λ h. tt; refused = λ h. inl is; always = λ h. (refl, record { at = λ path a b. refl; head = refl; good = λ path bad. bad }); others = λ name other. refl }, refl)
unlocked content is_durable found lists store old was before (local.Checkout work revision) e is = record {
  brought = λ t h. tt;
  refused = λ t h. inl is;
  begun = λ t h. inl (((refl, refl), refl), refl);
  others = λ name other. refl;
  trees = λ s name other. refl;
}
unlocked content is_durable found lists store old was before (local.Status work) e is = record {
  printed = λ t h. tt;
  refused = λ t h. inl is;
  nothing = inr (Keeps-refl before);
  front = λ t h. inl (Keeps-refl before);
  stores = λ name. refl;
  trees = record { here = refl; others = λ s name other. refl };
}

pub unlocked_told : {F : Type 0} (content : F → FileMap) (is_durable : F → Type 0) (found : Found) (lists : Lists) (store : List ℕ) (old new : Contents) (was : Trees) (before : Option (List ℕ)) (task : LocalTask) (failure : Failure) (r : Result (Unit {0}) Failure)
    → IsErrAnd r (λ e. e ≡ failure) → IsUnopened failure → new ≡ old → PerformsLocal content is_durable found lists store old new was was before before task r
unlocked_told content is_durable found lists store old new was before task failure (Err e) is why same =
    subst (λ (m : Contents). PerformsLocal content is_durable found lists store old m was was before before task (Err e)) (sym same) (unlocked content is_durable found lists store old was before task e (subst IsUnopened (sym is) why))
unlocked_told content is_durable found lists store old new was before task failure (Ok x) is why same = absurd is
