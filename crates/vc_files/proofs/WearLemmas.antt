-- One call after another on a device: what they write, and what they leave of the writes before a stop.
use Rattle.std.proofs.Common.{arith, ◌≡◌, ℕ, ◌+◌, ◌-◌, ◌≤◌, true, false, cond, List, [], ◌∷◌, ◌++◌, Option, Some, None, ◌⊎◌, inl, inr, sym, ap, refl, subst, ◌∙◌}
use Rattle.std.specs.Prelude.{Contains, bytes_eq}
use Rattle.std.specs.FinMap.{get, insert, remove}
use Rattle.std.proofs.lemmas.List.{length-append}
use Rattle.std.proofs.lemmas.List.Elements.{Contains-append_left, Contains-append_right}
use Rattle.std.proofs.lemmas.Slice.Eq.{bytes_eq-Decides}
use Rattle.vc_files.proofs.FileMapLemmas.{get-put, get-unput}
use Rattle.vc_files.specs.Failures.{HasFailed, Wears, Writes, Spends, DifferAtMost}
use Rattle.vc_files.specs.FileMap.{FileMap}

pub same_differ : (old new : FileMap) → new ≡ old → DifferAtMost 0 old new
same_differ old new same = ([], omega arith, λ path. inl (ap (λ (m : FileMap). get m path) same))

here : (path q : List ℕ) → bytes_eq q path ≡ true → Contains (path ∷ []) q
here path q same = (0, omega arith, sym ((bytes_eq-Decides q path).0 same))

pub put_differ : (old : FileMap) (path bytes : List ℕ) → DifferAtMost 1 old (insert old path bytes)
put_differ old path bytes = (path ∷ [], omega arith, λ q. at q (bytes_eq q path) refl)
  where
    at : (q : List ℕ) (b : _) → bytes_eq q path ≡ b → (get (insert old path bytes) q ≡ get old q) ⊎ Contains (path ∷ []) q
    at q true is = inr (here path q is)
    at q false is = inl (get-put old path bytes q ∙ ap (λ b. cond b (Some bytes) (get old q)) is)

pub unput_differ : (old : FileMap) (path : List ℕ) → DifferAtMost 1 old (remove old path)
unput_differ old path = (path ∷ [], omega arith, λ q. at q (bytes_eq q path) refl)
  where
    at : (q : List ℕ) (b : _) → bytes_eq q path ≡ b → (get (remove old path) q ≡ get old q) ⊎ Contains (path ∷ []) q
    at q true is = inr (here path q is)
    at q false is = inl (get-unput old path q ∙ ap (λ b. cond b None (get old q)) is)

pub more_differ : (m n : ℕ) (old new : FileMap) → m ≤ n → DifferAtMost m old new → DifferAtMost n old new
more_differ m n old new least d = (d.0, omega (arith, least, d.1), d.2)

pub both_differ : (m n : ℕ) (old mid new : FileMap) → DifferAtMost m old mid → DifferAtMost n mid new → DifferAtMost (m + n) old new
both_differ m n old mid new d e =
    (d.0 ++ e.0, omega (arith, length-append d.0 e.0, d.1, e.1), λ path. at path (d.2 path) (e.2 path))
  where
    at : (path : List ℕ) → (get mid path ≡ get old path) ⊎ Contains d.0 path → (get new path ≡ get mid path) ⊎ Contains e.0 path
        → (get new path ≡ get old path) ⊎ Contains (d.0 ++ e.0) path
    at path (inl first) (inl second) = inl (second ∙ first)
    at path (inr among) second = inr (Contains-append_left d.0 e.0 path among)
    at path (inl first) (inr among) = inr (Contains-append_right d.0 e.0 path among)

pub spends_none : (left : Option ℕ) → Spends 0 left left
spends_none None = refl
spends_none (Some n) = (omega arith, ap Some (omega arith))

pub spends_both : (m n : ℕ) (a b c : Option ℕ) → Spends m a b → Spends n b c → Spends (m + n) a c
spends_both m n None b c first second = subst (λ (x : Option ℕ). Spends n x c) first second
spends_both m n (Some w) b c first second =
    let then : Spends n (Some (w - m)) c = subst (λ (x : Option ℕ). Spends n x c) first.1 second in
    (omega (arith, first.0, then.0), then.1 ∙ ap Some (omega (arith, first.0, then.0)))

-- what was left before so many writes, where so many are left after them
pub left_before : (m n : ℕ) (a b : Option ℕ) → Spends m a b → b ≡ Some n → a ≡ Some (m + n)
left_before m n None b first is = cc
left_before m n (Some w) b first is =
    let more : w - m ≡ n = ap (λ (x : Option ℕ). or_none x) (sym first.1 ∙ is) in
    ap Some (omega (arith, first.0, more))
  where
    or_none : Option ℕ → ℕ
    or_none None = 0
    or_none (Some x) = x

pub fails_later : {first then last : ℕ} → first ≤ then → HasFailed then last → HasFailed first last
fails_later before (inl rose) = inl (omega (arith, before, rose))
fails_later before (inr greatest) = inr greatest

module _ {D : Type 0} {honest : Type 0} {content : D → FileMap} {failed : D → ℕ} {can_fail : D → Type 0} {left : D → Option ℕ} where
  -- a call that writes nothing is one that may
  pub wears_writes : {old new : D} {P : Type 0} → Wears failed can_fail left old new P → (honest → content new ≡ content old) → Writes honest content failed can_fail left old new P
  wears_writes {old = old} {new = new} w same = record {
    later = w.later;
    calm = λ can. inl (w.calm can);
    failed_now = w.failed_now;
    made = 0;
    spent = subst (λ (x : Option ℕ). Spends 0 (left old) x) (sym w.unspent) (spends_none (left old));
    could = λ device. inl (w.could device);
    differ = λ h. same_differ (content old) (content new) (same h);
  }

  pub writes_both : {old mid new : D} {P Q : Type 0} → Writes honest content failed can_fail left old mid P → (P → ⊥) → Writes honest content failed can_fail left mid new Q
      → Writes honest content failed can_fail left old new Q
  writes_both {old = old} {mid = mid} {new = new} {P = P} {Q = Q} v never w = record {
    later = omega (arith, v.later, w.later);
    calm = λ can. calm_of (w.calm can);
    failed_now = λ device. fails_later v.later (w.failed_now device);
    made = v.made + w.made;
    spent = spends_both v.made w.made (left old) (left mid) (left new) v.spent w.spent;
    could = λ device. could_of (w.could device);
    differ = λ h. both_differ v.made w.made (content old) (content mid) (content new) (v.differ h) (w.differ h);
  }
    where
      before : can_fail mid → can_fail old
      before can = elim (v.calm can) as (λ _. can_fail old) [ inl it ↦ it | inr device ↦ absurd (never device) ]

      calm_of : can_fail mid ⊎ Q → can_fail old ⊎ Q
      calm_of (inl can) = inl (before can)
      calm_of (inr device) = inr device

      could_of : can_fail mid ⊎ (left mid ≡ Some w.made) → can_fail old ⊎ (left old ≡ Some (v.made + w.made))
      could_of (inl can) = inl (before can)
      could_of (inr none) = inr (left_before v.made w.made (left old) (left mid) v.spent none)

  -- a call that writes nothing, and then one that may
  pub wears_then : {old mid new : D} {P Q : Type 0} → Wears failed can_fail left old mid P → (honest → content mid ≡ content old) → (P → ⊥) → Writes honest content failed can_fail left mid new Q
      → Writes honest content failed can_fail left old new Q
  wears_then v same never w = writes_both (wears_writes v same) never w

  -- the same call, with its end told in other words
  pub writes_told : {old new : D} {P Q : Type 0} → Writes honest content failed can_fail left old new P → (P → Q) → (Q → P) → Writes honest content failed can_fail left old new Q
  writes_told {old = old} {new = new} {P = P} {Q = Q} w to from = record {
    later = w.later;
    calm = λ can. calm_of (w.calm can);
    failed_now = λ device. w.failed_now (from device);
    made = w.made;
    spent = w.spent;
    could = λ device. w.could (from device);
    differ = w.differ;
  }
    where
      calm_of : can_fail old ⊎ P → can_fail old ⊎ Q
      calm_of (inl can) = inl can
      calm_of (inr device) = inr (to device)

  -- the same call, from what is the same
  pub writes_from : {old mid new : D} {P : Type 0} → mid ≡ old → Writes honest content failed can_fail left mid new P → Writes honest content failed can_fail left old new P
  writes_from {new = new} {P = P} same w = subst (λ (d : D). Writes honest content failed can_fail left d new P) same w

  -- nothing was done, and no fault of the device is told
  pub writes_none : {device : D} {P : Type 0} → (P → ⊥) → Writes honest content failed can_fail left device device P
  writes_none {device = device} never = record {
    later = omega arith;
    calm = λ can. inl can;
    failed_now = λ told. absurd (never told);
    made = 0;
    spent = spends_none (left device);
    could = λ told. absurd (never told);
    differ = λ h. same_differ (content device) (content device) refl;
  }
