-- One answer after another: what is told of it.
use Rattle.std.proofs.Common.{Option, ℕ, inl, inr, Result, Ok, Err, refl}
use Rattle.vc_files.specs.Failures.{Wears}
use Rattle.vc_rev.specs.Answer.{After, IsTold, IsToldAlone}
use Rattle.vc_rev.specs.Question.{Question, AsksAfter}
use Rattle.vc_rev.specs.declared.refusal.Refusal.{Refusal}
use Rattle.vc_rev.specs.declared.refusal.SourceFault.{SourceFault}
use Rattle.vc_rev.specs.declared.refusal.RevFault.{RevFault}
use Rattle.vc_rev.specs.declared.refusal.RevFault.TheVariants.{Refused, Missing, NotACommit, Source}

module _ (Blames : Question → SourceFault → Type 0) where
  -- a refusal of one relation is that of another, and what is asked for one is asked for the other
  pub told_same : {A B : Type 0} (AsksP AsksQ : Question → Type 0) (P : Result A Refusal → Type 0) (Q : Result B Refusal → Type 0) (e : RevFault) → ((question : Question) → AsksP question → AsksQ question) → ((r : Refusal) → P (Err r) → Q (Err r)) → IsTold Blames AsksP P e → IsTold Blames AsksQ Q e
  told_same AsksP AsksQ P Q (Refused r) asked go t = go r t
  told_same AsksP AsksQ P Q (Missing id) asked go t = t
  told_same AsksP AsksQ P Q (NotACommit id) asked go t = t
  told_same AsksP AsksQ P Q (Source fault) asked go (inl m) = inl m
  told_same AsksP AsksQ P Q (Source fault) asked go (inr t) = inr (t.0, asked t.0 t.1, t.2)

  -- what is told first is told
  pub told_first : {A B : Type 0} (Asks : Question → Type 0) (First : Result A Refusal → Type 0) (asks_next : A → Question → Type 0) (next : A → Result B Refusal → Type 0) (e : RevFault) → IsTold Blames Asks First e → IsTold Blames (AsksAfter Asks First asks_next) (After First next) e
  told_first Asks First asks_next next e t = told_same Asks (AsksAfter Asks First asks_next) First (After First next) e (λ question h. inl h) (λ r h. (Err r, h, refl)) t

  -- what is told next is told
  pub told_next : {A B : Type 0} (Asks : Question → Type 0) (First : Result A Refusal → Type 0) (asks_next : A → Question → Type 0) (next : A → Result B Refusal → Type 0) (a : A) (e : RevFault) → First (Ok a) → IsTold Blames (asks_next a) (next a) e → IsTold Blames (AsksAfter Asks First asks_next) (After First next) e
  told_next Asks First asks_next next a e f t = told_same (asks_next a) (AsksAfter Asks First asks_next) (next a) (After First next) e (λ question h. inr (a, f, h)) (λ r h. (Ok a, f, h)) t

  -- what is told first is told, where nothing is asked behind it
  pub told_only : {A B : Type 0} (Asks : Question → Type 0) (First : Result A Refusal → Type 0) (next : A → Result B Refusal → Type 0) (e : RevFault) → IsTold Blames Asks First e → IsTold Blames Asks (After First next) e
  told_only Asks First next e t = told_same Asks Asks First (After First next) e (λ question h. h) (λ r h. (Err r, h, refl)) t

  -- what is refused next with no repository is refused with one
  pub told_alone : {A B : Type 0} (Asks : Question → Type 0) (First : Result A Refusal → Type 0) (next : A → Result B Refusal → Type 0) (a : A) (e : RevFault) → First (Ok a) → IsToldAlone (next a) e → IsTold Blames Asks (After First next) e
  told_alone Asks First next a (Refused r) f t = (Ok a, f, t)
  told_alone Asks First next a (Missing id) f t = t
  told_alone Asks First next a (NotACommit id) f t = t
  told_alone Asks First next a (Source fault) f (inl m) = inl m
  told_alone Asks First next a (Source fault) f (inr b) = absurd b.1

-- what is no fault of the device wears nothing
pub wears_none : {D : Type 0} (failed : D → ℕ) (can_fail : D → Type 0) (left : D → Option ℕ) (old new : D) (P Q : Type 0) → Wears failed can_fail left old new P → (Q → ⊥) → Wears failed can_fail left old new Q
wears_none failed can_fail left old new P Q w other = record {
  later = w.later;
  calm = w.calm;
  could = λ q. absurd (other q);
  failed_now = λ q. absurd (other q);
  unspent = w.unspent;
}
