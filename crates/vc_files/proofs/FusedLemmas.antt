-- A write under a fuse that lets it pass.
use Rattle.std.proofs.Common.{nat_eq, Bool, false, cond, arith, ◌≡◌, ℕ, zero, suc, ◌-◌, ◌≤◌, true, Option, Some, None, ◌⊎◌, inl, inr, ap, refl, subst, ◌∙◌, sym}
use Rattle.std.specs.Prelude.{is_some, IsTrue, List, Result, Ok, Err, OnOk, OnErr}
use Rattle.std.specs.FinMap.{insert, remove}
use Rattle.vc_files.proofs.WearLemmas.{same_differ, more_differ, put_differ, unput_differ}
use Rattle.vc_files.specs.Failures.{HasFailed, Writes, Spends, DifferAtMost}
use Rattle.vc_files.specs.FileMap.{FileMap}
use Rattle.vc_files.specs.Fused.{Fused, IsBlown, after_write, fused_failed, left_by, fused_left, CanFailBy, FusedCanFail}
use Rattle.vc_files.specs.declared.fused.Fuse.{Fuse}
use Rattle.vc_files.specs.declared.fused.Fuse.TheVariants.{Unset, Left, Blown}

-- a put or a removal changes one path, or none
pub put_outcome : {E : Type 0} (old new : FileMap) (path bytes : List ℕ) (r : Result (Unit {0}) E) → OnOk r (new ≡ insert old path bytes) → OnErr r (new ≡ old) → DifferAtMost 1 old new
put_outcome old new path bytes (Ok u) ok err = subst (λ (m : FileMap). DifferAtMost 1 old m) (sym ok) (put_differ old path bytes)
put_outcome old new path bytes (Err e) ok err = more_differ 0 1 old new (omega arith) (same_differ old new err)

pub unput_outcome : {E : Type 0} (old new : FileMap) (path : List ℕ) (r : Result (Unit {0}) E) → OnOk r (new ≡ remove old path) → OnErr r (new ≡ old) → DifferAtMost 1 old new
unput_outcome old new path (Ok u) ok err = subst (λ (m : FileMap). DifferAtMost 1 old m) (sym ok) (unput_differ old path)
unput_outcome old new path (Err e) ok err = more_differ 0 1 old new (omega arith) (same_differ old new err)

at_least : (n : ℕ) → nat_eq n 0 ≡ false → 1 ≤ n
at_least zero is = cc
at_least (suc n) is = omega arith

still_some : (made : ℕ) (a b : Option ℕ) → Spends made a b → IsTrue (is_some b) → IsTrue (is_some a)
still_some made None b spent some = ap is_some (sym spent) ∙ some
still_some made (Some n) b spent some = refl

is_there : (a : Option ℕ) (n : ℕ) → a ≡ Some n → IsTrue (is_some a)
is_there a n is = ap is_some is

-- what the write leaves of the fuse and of the files
abbrev Burnt : {F : Type 0} (honest : Type 0) (content : F → FileMap) (can_fail : F → Type 0) (left : F → Option ℕ) (files now : F) → Type 0 → Fuse → Fuse → Type 0
Burnt honest content can_fail left files now P before after = (made : ℕ) × Spends made (left_by before (left files)) (left_by after (left now))
    × (P → CanFailBy before (left files) (can_fail files) ⊎ (left_by before (left files) ≡ Some made))
    × (honest → DifferAtMost made (content files) (content now))
    × (CanFailBy after (left now) (can_fail now) → CanFailBy before (left files) (can_fail files) ⊎ P)

module _ {F : Type 0} {honest : Type 0} {content : F → FileMap} {failed : F → ℕ} {can_fail : F → Type 0} {left : F → Option ℕ} where
  by_left : (files now : F) (P : Type 0) (n : ℕ) → 1 ≤ n → (honest → DifferAtMost 1 (content files) (content now)) → Writes honest content failed can_fail left files now P → Burnt honest content can_fail left files now P (Left n) (Left (n - 1))
  by_left files now P n some differ w = (1, (some, refl), (λ device. inl (could_of (w.could device))), differ, calm_of)
    where
      calm_of : IsTrue (is_some (left now)) ⊎ can_fail now → (IsTrue (is_some (left files)) ⊎ can_fail files) ⊎ P
      calm_of (inl is) = inl (inl (still_some w.made (left files) (left now) w.spent is))
      calm_of (inr can) = elim (w.calm can) as (λ _. (IsTrue (is_some (left files)) ⊎ can_fail files) ⊎ P) [ inl was ↦ inl (inr was) | inr device ↦ inr device ]

      could_of : can_fail files ⊎ (left files ≡ Some w.made) → IsTrue (is_some (left files)) ⊎ can_fail files
      could_of (inl can) = inr can
      could_of (inr is) = inl (is_there (left files) w.made is)

  by_fuse : (files now : F) (P : Type 0) → (honest → DifferAtMost 1 (content files) (content now)) → Writes honest content failed can_fail left files now P
      → (before after : Fuse) → after ≡ after_write before → (IsBlown after → ⊥) → Burnt honest content can_fail left files now P before after
  by_fuse files now P differ w Unset after is alive = subst (λ (x : Fuse). Burnt honest content can_fail left files now P Unset x) (sym is) (w.made, w.spent, w.could, w.differ, w.calm)
  by_fuse files now P differ w Blown after is alive = absurd (alive (subst (λ (x : Fuse). IsBlown x) (sym is) tt))
  by_fuse files now P differ w (Left n) after is alive = by_test (nat_eq n 0) refl
    where
      by_test : (b : Bool) → nat_eq n 0 ≡ b → Burnt honest content can_fail left files now P (Left n) after
      by_test true none =
          let blown : after ≡ Blown = is ∙ ap (λ (b : Bool). cond b Blown (Left (n - 1))) none in
          absurd (alive (subst (λ (x : Fuse). IsBlown x) (sym blown) tt))
      by_test false more =
          let less : after ≡ Left (n - 1) = is ∙ ap (λ (b : Bool). cond b Blown (Left (n - 1))) more in
          subst (λ (x : Fuse). Burnt honest content can_fail left files now P (Left n) x) (sym less) (by_left files now P n (at_least n more) differ w)

  -- the fuse let a write pass, which the files then did or did not
  pub passed_writes : (old new : Fused F) (P : Type 0) → new.fuse ≡ after_write old.fuse → (IsBlown new.fuse → ⊥)
      → (fused_failed failed old ≤ fused_failed failed new) → (P → HasFailed (fused_failed failed old) (fused_failed failed new))
      → (honest → DifferAtMost 1 (content old.files) (content new.files))
      → Writes honest content failed can_fail left old.files new.files P
      → Writes honest (λ (s : Fused F). content s.files) (fused_failed failed) (FusedCanFail can_fail left) (fused_left left) old new P
  passed_writes old new P is alive later failed_now differ w =
      let burnt = by_fuse old.files new.files P differ w old.fuse new.fuse is alive in
      record { later = later; calm = burnt.4; failed_now = failed_now; made = burnt.0; spent = burnt.1; could = burnt.2; differ = burnt.3 }
