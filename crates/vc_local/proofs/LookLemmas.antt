-- One look after another at a device, and looks before a call that may write or only looks.
use Rattle.std.proofs.Common.{arith, ◌≡◌, ℕ, Option, ◌⊎◌, inl, inr, ◌∙◌, sym, refl, subst}
use Rattle.vc_files.specs.Failures.{Wears}
use Rattle.vc_files.proofs.WearLemmas.{fails_later}
use Rattle.vc_local.specs.NodeFault.{IsOfDevice}
use Rattle.vc_local.specs.declared.fault.NodeFault.{NodeFault}

module _ {D : Type 0} {failed : D → ℕ} {can_fail : D → Type 0} {left : D → Option ℕ} where
  -- no look at all, and no fault of the device is told
  pub looks_none : {device : D} {P : Type 0} → (P → ⊥) → Wears failed can_fail left device device P
  looks_none never = record {
    later = omega arith;
    calm = λ can. can;
    could = λ told. absurd (never told);
    failed_now = λ told. absurd (never told);
    unspent = refl;
  }

  -- a look, and then another
  pub looks_then : {old mid new : D} {P Q : Type 0} → Wears failed can_fail left old mid P → Wears failed can_fail left mid new Q → Wears failed can_fail left old new Q
  looks_then v w = record {
    later = omega (arith, v.later, w.later);
    calm = λ can. v.calm (w.calm can);
    could = λ device. v.calm (w.could device);
    failed_now = λ device. fails_later v.later (w.failed_now device);
    unspent = w.unspent ∙ v.unspent;
  }

  -- the same look, with its end told in other words
  pub looks_told : {old new : D} {P Q : Type 0} → Wears failed can_fail left old new P → (Q → P) → Wears failed can_fail left old new Q
  looks_told w told = record {
    later = w.later;
    calm = w.calm;
    could = λ device. w.could (told device);
    failed_now = λ device. w.failed_now (told device);
    unspent = w.unspent;
  }

  -- the same of a call that may write, or only looks
  pub or_told : {old new : D} {May Can P Q : Type 0} → May ⊎ Wears failed can_fail left old new P → (May → Can) → (Q → P) → Can ⊎ Wears failed can_fail left old new Q
  or_told (inl may) can told = inl (can may)
  or_told (inr looks) can told = inr (looks_told looks told)

  -- a look, and then such a call
  pub looks_or : {old mid new : D} {May Can P Q : Type 0} → Wears failed can_fail left old mid P → May ⊎ Wears failed can_fail left mid new Q → (May → Can) → Can ⊎ Wears failed can_fail left old new Q
  looks_or v (inl may) can = inl (can may)
  looks_or v (inr looks) can = inr (looks_then v looks)

  -- the same call, from what is the same
  pub looks_from : {old mid new : D} {May Q : Type 0} → mid ≡ old → May ⊎ Wears failed can_fail left mid new Q → May ⊎ Wears failed can_fail left old new Q
  looks_from {new = new} {May = May} {Q = Q} same or = subst (λ (d : D). May ⊎ Wears failed can_fail left d new Q) same or

  -- such a call that failed, as a method tells it: the fault went through the call that takes the node down
  pub or_failed : {old mid new : D} {May Can : Type 0} {e told : NodeFault} → May ⊎ Wears failed can_fail left old mid (IsOfDevice e) → (May → Can) → new ≡ mid → told ≡ e
      → Can ⊎ Wears failed can_fail left old new (IsOfDevice told)
  or_failed (inl may) can files is = inl (can may)
  or_failed {old = old} {new = new} {e = e} (inr looks) can files is =
      inr (subst (λ (f : NodeFault). Wears failed can_fail left old new (IsOfDevice f)) (sym is) (subst (λ (d : D). Wears failed can_fail left old d (IsOfDevice e)) (sym files) looks))
