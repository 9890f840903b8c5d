-- What is due once refs have moved.
use Rattle.std.proofs.Common.{◌≡◌, ◌⊎◌, inl, inr, ℕ, ◌+◌, Bool, true, false, cond, List, [], ◌∷◌, ◌++◌, length, take, Some, Result, Err, Contains, append_assoc, sym, ap, ◌∙◌, subst}
use Rattle.std.specs.Prelude.{IfOk, bytes_eq}
use Rattle.std.proofs.Math.Seq.{take-append_seam}
use Rattle.std.proofs.lemmas.List.{append-nil, length-append}
use Rattle.std.proofs.lemmas.List.Elements.{Contains-append_left, Contains-push}
use Rattle.vc_files.specs.FileMap.{FileMap}
use Rattle.vc_object.specs.declared.id.ObjectId.{ObjectId}
use Rattle.vc_refs.specs.RefMap.{RefMap, with_ref}
use Rattle.vc_refs.specs.Refs.{refs}
use Rattle.vc_tracking.specs.Learning.{AreNoted}
use Rattle.vc_tracking.specs.Moving.{IsMove}
use Rattle.vc_tracking.specs.declared.fault.ExchangeFault.{ExchangeFault}
use Rattle.vc_tracking.specs.declared.moving.Followed.{Followed}

-- ---- one ref after another
module _ (old : RefMap) where
  pub noted_none : (due : List ObjectId) → AreNoted old old due due
  noted_none due = record { set = []; beside = sym (append-nil due); each = λ name id is. inl is }

  -- one more is noted, whether or not its ref moves
  pub noted_more : (new : RefMap) (due now : List ObjectId) (id : ObjectId) → AreNoted old new due now → AreNoted old new due (now ++ id ∷ [])
  noted_more new due now id n = record {
    set = n.set ++ id ∷ [];
    beside = ap (λ (l : List ObjectId). l ++ id ∷ []) n.beside ∙ append_assoc due n.set (id ∷ []);
    each = λ name x is. elim (n.each name x is) as (λ _. (old name ≡ Some x) ⊎ Contains (n.set ++ id ∷ []) x) [ inl was ↦ inl was | inr there ↦ inr (Contains-append_left n.set (id ∷ []) x there) ];
  }

  pub noted_set : (mid : RefMap) (due now : List ObjectId) (to : List ℕ) (id : ObjectId) → AreNoted old mid due now → AreNoted old (with_ref mid to id) due (now ++ id ∷ [])
  unfolding with_ref
  noted_set mid due now to id n = record {
    set = n.set ++ id ∷ [];
    beside = ap (λ (l : List ObjectId). l ++ id ∷ []) n.beside ∙ append_assoc due n.set (id ∷ []);
    each = λ name x is. by name x (bytes_eq name to) is;
  }
    where
      by : (name : List ℕ) (x : ObjectId) (b : Bool) → cond b (Some id) (mid name) ≡ Some x → (old name ≡ Some x) ⊎ Contains (n.set ++ id ∷ []) x
      by name x true is = let same : id ≡ x = cc in inr (subst (λ (y : ObjectId). Contains (n.set ++ id ∷ []) y) same (Contains-push n.set id))
      by name x false is = elim (n.each name x is) as (λ _. (old name ≡ Some x) ⊎ Contains (n.set ++ id ∷ []) x) [ inl was ↦ inl was | inr there ↦ inr (Contains-append_left n.set (id ∷ []) x there) ]

-- the next ref has moved, or it is noted no longer
pub noted_moved : (P : Type 0) (followed : Followed) (old : RefMap) (mid new : FileMap) (name : List ℕ) (id : ObjectId) (due now : List ObjectId)
    → IsMove P followed mid new name id true → AreNoted old (refs mid) due now → AreNoted old (refs new) due (now ++ id ∷ [])
noted_moved P followed old mid new name id due now (to, may, set) n = subst (λ (r : RefMap). AreNoted old r due (now ++ id ∷ [])) (sym set) (noted_set old (refs mid) due now to id n)

pub noted_stayed : (P : Type 0) (followed : Followed) (old : RefMap) (mid new : FileMap) (name : List ℕ) (id : ObjectId) (due now after : List ObjectId)
    → IsMove P followed mid new name id false → after ≡ now → AreNoted old (refs mid) due now → AreNoted old (refs new) due after
noted_stayed P followed old mid new name id due now after (none, same) left n =
    subst (λ (l : List ObjectId). AreNoted old (refs new) due l) (sym left) (subst (λ (f : FileMap). AreNoted old (refs f) due now) (sym same) n)

pub noted_at : (old : RefMap) (mid new : FileMap) (due now after : List ObjectId) → new ≡ mid → after ≡ now → AreNoted old (refs mid) due now → AreNoted old (refs new) due after
noted_at old mid new due now after same left n =
    subst (λ (l : List ObjectId). AreNoted old (refs new) due l) (sym left) (subst (λ (f : FileMap). AreNoted old (refs f) due now) (sym same) n)

-- what was pushed last is taken off
pub pushed_off : (due : List ObjectId) (id : ObjectId) (pushed after : List ObjectId) (n : ℕ) → n ≡ length due → pushed ≡ due ++ id ∷ [] → after ≡ take n pushed → after ≡ due
pushed_off due id pushed after n is more cut = cut ∙ ap (take n) more ∙ ap (λ (k : ℕ). take k (due ++ id ∷ [])) is ∙ take-append_seam due (id ∷ [])

pub pushed_length : (due : List ObjectId) (id : ObjectId) (pushed : List ObjectId) → pushed ≡ due ++ id ∷ [] → length pushed ≡ length due + 1
pushed_length due id pushed more = ap length more ∙ length-append due (id ∷ [])

-- an error counts nothing
pub none_counted : (r : Result ℕ ExchangeFault) (e : ExchangeFault) (P : ℕ → Type 0) → r ≡ Err e → IfOk r P
none_counted r e P is = subst (λ (x : Result ℕ ExchangeFault). IfOk x P) (sym is) tt
