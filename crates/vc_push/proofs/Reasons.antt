-- Each reason has a text of its own.
use Rattle.std.proofs.Common.{◌≡◌, ℕ, Bool, true, false, cond, List, ◌∷◌, Some, refl, ap, sym, ◌∙◌, []}
use Rattle.std.specs.Prelude.{find}
use Rattle.std.specs.Str.{bytes_eq}
use Rattle.std.proofs.lemmas.Slice.Eq.{bytes_eq-Decides}
use Rattle.std.proofs.lemmas.Option.{same_Some}
use Rattle.vc_push.specs.Reason.{all_reasons, reason_of, reason_text}
use Rattle.vc_push.specs.declared.reason.Reason.{Reason}
use Rattle.vc_push.specs.declared.reason.Reason.TheVariants.{BadName, OutsideRefs, DeletionProhibited, MissingObjects, NotACommit, NonFastForward, AlreadyExists, NameConflict, Stale, UnpackerError, AtomicFailure}

pub reason_again : (reason : Reason) → reason_of (reason_text reason) ≡ Some reason
unfolding reason_of
reason_again BadName = refl
reason_again OutsideRefs = refl
reason_again DeletionProhibited = refl
reason_again MissingObjects = refl
reason_again NotACommit = refl
reason_again NonFastForward = refl
reason_again AlreadyExists = refl
reason_again NameConflict = refl
reason_again Stale = refl
reason_again UnpackerError = refl
reason_again AtomicFailure = refl

found_text : (words : List ℕ) (reason : Reason) (reasons : List Reason) → find (λ r. bytes_eq (reason_text r) words) reasons ≡ Some reason → words ≡ reason_text reason
found_text words reason [] e = absurd (cc e)
found_text words reason (r ∷ rs) e = by (bytes_eq (reason_text r) words) refl (λ h. found_text words reason rs h) e
  where
    by : (b : Bool) → bytes_eq (reason_text r) words ≡ b → (find (λ q. bytes_eq (reason_text q) words) rs ≡ Some reason → words ≡ reason_text reason)
        → cond b (Some r) (find (λ q. bytes_eq (reason_text q) words) rs) ≡ Some reason → words ≡ reason_text reason
    by true is ih e = sym ((bytes_eq-Decides (reason_text r) words).0 is) ∙ ap reason_text (same_Some r reason e)
    by false is ih e = ih e

pub reason_some : (words : List ℕ) (reason : Reason) → reason_of words ≡ Some reason → words ≡ reason_text reason
unfolding reason_of
reason_some words reason e = found_text words reason all_reasons e
