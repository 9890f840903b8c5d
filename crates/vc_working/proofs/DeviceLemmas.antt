-- One call after another on two devices, a work tree's and a store's: what they do to both.
use Rattle.std.proofs.Common.{arith, ◌≡◌, ℕ, ◌+◌, Option, Some, ◌⊎◌, inl, inr, sym, refl, subst, ◌∙◌}
use Rattle.vc_checkout.specs.Devices.{WearsEither}
use Rattle.vc_files.proofs.WearLemmas.{both_differ, fails_later, left_before, same_differ, spends_both, spends_none}
use Rattle.vc_files.specs.Failures.{HasFailed, Spends, Wears, Writes, unstopped}
use Rattle.vc_files.specs.FileMap.{FileMap}
use Rattle.vc_working.specs.Devices.{WritesEither}
use Rattle.vc_cli.specs.Failure.{IsOfDevice, IsOfFiles}
use Rattle.vc_cli.specs.declared.failure.Failure.{Failure}
use Rattle.vc_cli.specs.declared.failure.Failure.TheVariants.{Fault}

-- a device's fault that is told of the files is one
pub of_files_told : (e : Failure) → IsOfFiles e → IsOfDevice e
of_files_told (Fault fault) of = absurd of
of_files_told _ of = of

module _ {W F : Type 0} {work_failed : W → ℕ} {work_can_fail : W → Type 0} {work_left : W → Option ℕ} {honest : Type 0} {content : F → FileMap} {failed : F → ℕ} {can_fail : F → Type 0} {left : F → Option ℕ} where
  -- a call on the work tree alone
  pub of_work : {was now : W} {files : F} {P : Type 0} → Wears work_failed work_can_fail work_left was now P → WritesEither work_failed work_can_fail work_left honest content failed can_fail left was now files files P
  of_work {files = files} w = record {
    later_work = w.later;
    later = omega arith;
    calm_work = w.calm;
    calm = λ can. inl can;
    unspent_work = w.unspent;
    made = 0;
    spent = spends_none (left files);
    could = λ device. inl (w.could device);
    failed_now = λ device. inl (w.failed_now device);
    differ = λ h. same_differ (content files) (content files) refl;
  }

  -- a call on the store alone
  pub of_files : {work : W} {old new : F} {P : Type 0} → Writes honest content failed can_fail left old new P → WritesEither work_failed work_can_fail work_left honest content failed can_fail left work work old new P
  of_files w = record {
    later_work = omega arith;
    later = w.later;
    calm_work = λ can. can;
    calm = w.calm;
    unspent_work = refl;
    made = w.made;
    spent = w.spent;
    could = λ device. inr (w.could device);
    failed_now = λ device. inr (w.failed_now device);
    differ = w.differ;
  }

  -- a look at both
  pub of_either : {was now : W} {old new : F} {P : Type 0} → WearsEither work_failed work_can_fail work_left failed can_fail left was now old new P → (honest → content new ≡ content old) → WritesEither work_failed work_can_fail work_left honest content failed can_fail left was now old new P
  of_either {was = was} {old = old} {new = new} {P = P} w same = record {
    later_work = w.later_work;
    later = w.later_files;
    calm_work = w.calm_work;
    calm = λ can. inl (w.calm_files can);
    unspent_work = w.unspent_work;
    made = 0;
    spent = subst (λ (x : Option ℕ). Spends 0 (left old) x) (sym w.unspent) (spends_none (left old));
    could = λ device. elim (w.could device) as (λ _. work_can_fail was ⊎ (can_fail old ⊎ (left old ≡ Some 0))) [ inl can ↦ inl can | inr can ↦ inr (inl can) ];
    failed_now = w.failed_now;
    differ = λ h. same_differ (content old) (content new) (same h);
  }

  -- a call that tells no device's fault, and then another
  pub either_both : {was mid_work now : W} {old mid new : F} {P Q : Type 0} → WritesEither work_failed work_can_fail work_left honest content failed can_fail left was mid_work old mid P → (P → ⊥) → WritesEither work_failed work_can_fail work_left honest content failed can_fail left mid_work now mid new Q → WritesEither work_failed work_can_fail work_left honest content failed can_fail left was now old new Q
  either_both {was = was} {mid_work = mid_work} {now = now} {old = old} {mid = mid} {new = new} {P = P} {Q = Q} v never w = record {
    later_work = omega (arith, v.later_work, w.later_work);
    later = omega (arith, v.later, w.later);
    calm_work = λ can. v.calm_work (w.calm_work can);
    calm = λ can. calm_of (w.calm can);
    unspent_work = w.unspent_work ∙ v.unspent_work;
    made = v.made + w.made;
    spent = spends_both v.made w.made (left old) (left mid) (left new) v.spent w.spent;
    could = λ device. could_of (w.could device);
    failed_now = λ device. failed_of (w.failed_now device);
    differ = λ h. both_differ v.made w.made (content old) (content mid) (content new) (v.differ h) (w.differ h);
  }
    where
      before : can_fail mid → can_fail old
      before can = elim (v.calm can) as (λ _. can_fail old) [ inl it ↦ it | inr device ↦ absurd (never device) ]

      calm_of : can_fail mid ⊎ Q → can_fail old ⊎ Q
      calm_of (inl can) = inl (before can)
      calm_of (inr device) = inr device

      could_of : work_can_fail mid_work ⊎ (can_fail mid ⊎ (left mid ≡ Some w.made)) → work_can_fail was ⊎ (can_fail old ⊎ (left old ≡ Some (v.made + w.made)))
      could_of (inl can) = inl (v.calm_work can)
      could_of (inr (inl can)) = inr (inl (before can))
      could_of (inr (inr none)) = inr (inr (left_before v.made w.made (left old) (left mid) v.spent none))

      failed_of : HasFailed (work_failed mid_work) (work_failed now) ⊎ HasFailed (failed mid) (failed new) → HasFailed (work_failed was) (work_failed now) ⊎ HasFailed (failed old) (failed new)
      failed_of (inl more) = inl (fails_later v.later_work more)
      failed_of (inr more) = inr (fails_later v.later more)

  -- the same call, with its end told in other words
  pub either_told : {was now : W} {old new : F} {P Q : Type 0} → WritesEither work_failed work_can_fail work_left honest content failed can_fail left was now old new P → (P → Q) → (Q → P) → WritesEither work_failed work_can_fail work_left honest content failed can_fail left was now old new Q
  either_told {was = was} {old = old} {P = P} {Q = Q} w to from = record {
    later_work = w.later_work;
    later = w.later;
    calm_work = w.calm_work;
    calm = λ can. calm_of (w.calm can);
    unspent_work = w.unspent_work;
    made = w.made;
    spent = w.spent;
    could = λ device. w.could (from device);
    failed_now = λ device. w.failed_now (from device);
    differ = w.differ;
  }
    where
      calm_of : can_fail old ⊎ P → can_fail old ⊎ Q
      calm_of (inl can) = inl can
      calm_of (inr device) = inr (to device)

-- a look that leaves the work tree's writes is one at a device with no stop
pub unstopped_either : {W F : Type 0} {work_failed : W → ℕ} {work_can_fail : W → Type 0} {work_left : W → Option ℕ} {failed : F → ℕ} {can_fail : F → Type 0} {left : F → Option ℕ} {was now : W} {old new : F} {P : Type 0}
    → WearsEither work_failed work_can_fail work_left failed can_fail left was now old new P → WearsEither work_failed work_can_fail unstopped failed can_fail left was now old new P
unstopped_either w = record {
  later_work = w.later_work;
  later_files = w.later_files;
  calm_work = w.calm_work;
  calm_files = w.calm_files;
  could = w.could;
  failed_now = w.failed_now;
  unspent_work = refl;
  unspent = w.unspent;
}
