-- The walk that keeps what it reads: what stays true of it, step by step, and what it has kept at its end.
use Rattle.std.proofs.Common.{◌≡◌, ℕ, Bool, true, false, true≢false, ◌+◌, ◌<◌, ◌≤◌, ◌⊎◌, inl, inr, ⊎_elim, List, [], ◌∷◌, ◌++◌, length, take, get_or, Option, Some, Contains, ◌↔◌, sym, ap, subst, ◌∙◌, arith}
use Rattle.std.proofs.lemmas.List.{take_all, take-append-le, take_more}
use Rattle.std.proofs.lemmas.List.Elements.{Contains-append_left, Contains-append_right, Contains-push_cases}
use Rattle.vc_pack.proofs.ReadingLemmas.{HasRead, HasRead-none, HasRead-push}
use Rattle.vc_pack.specs.Sent.{IsSentUnlessReached}
use Rattle.vc_files.specs.FileMap.{FileMap}
use Rattle.vc_object_map.proofs.WalkLemmas.{Reaches-from_one, Reaches-trans}
use Rattle.vc_object_map.specs.Graph.{ReachedFrom}
use Rattle.vc_object.specs.Decoding.{StoredObject}
use Rattle.vc_object.specs.declared.id.ObjectId.{ObjectId}
use Rattle.vc_pkt.specs.Carried.{with_object}
use Rattle.vc_object_map.specs.Store.{objects}

-- what is reached from a name that the roots reach is reached from the roots
pub ReachedFrom-onward : (links : ObjectId → Option (List ObjectId)) (roots : List ObjectId) (id : ObjectId) → ReachedFrom links roots id → (y : ObjectId) → ReachedFrom links (id ∷ []) y → ReachedFrom links roots y
ReachedFrom-onward links roots id at y r = record { root = at.root; is_root = at.is_root; reaches = Reaches-trans links at.reaches (Reaches-from_one links id y r) }

-- ---- what was kept
-- of the first `next` names that were met, those are kept that aren't reached already
pub record Keeps (content : FileMap) (has : ObjectId → Bool) (met : List ObjectId) (next : ℕ) (sent : List StoredObject) : Type 0 where
  pub names : List ObjectId
  pub read : HasRead content names sent
  pub are : (id : ObjectId) → Contains names id ↔ (Contains (take next met) id × (has id ≡ false))

module _ (content : FileMap) (has : ObjectId → Bool) where
  pub Keeps-start : (met : List ObjectId) (sent : List StoredObject) → sent ≡ [] → Keeps content has met 0 sent
  Keeps-start met sent none = record {
    names = [];
    read = HasRead-none content sent none;
    are = λ id. (λ h. absurd (omega (arith, h.1)), λ h. absurd (omega (arith, h.0.1)));
  }

  module _ (met now more : List ObjectId) (next : ℕ) (id : ObjectId) (here : next < length met) (at : get_or met next id ≡ id) (grown : now ≡ met ++ more) where
    front : take (next + 1) now ≡ take next met ++ id ∷ []
    front = ap (take (next + 1)) grown ∙ take-append-le (next + 1) met more (omega (arith, here)) ∙ take_more met next id here ∙ ap (λ x. take next met ++ x ∷ []) at

    in_front : (y : ObjectId) → Contains (take next met) y ⊎ (id ≡ y) → Contains (take (next + 1) now) y
    in_front y h = subst (λ l. Contains l y) (sym front) (⊎_elim (Contains-append_left (take next met) (id ∷ []) y)
        (λ (is : id ≡ y). Contains-append_right (take next met) (id ∷ []) y (0, omega arith, is)) h)

    cases : (y : ObjectId) → Contains (take (next + 1) now) y → Contains (take next met) y ⊎ (id ≡ y)
    cases y h = Contains-push_cases (take next met) id y (subst (λ l. Contains l y) front h)

    pub Keeps-step : (sent later : List StoredObject) → Keeps content has met next sent → IsSentUnlessReached content has id sent later → Keeps content has now (next + 1) later
    Keeps-step sent later keeps = ⊎_elim passed kept
      where
        passed : (has id ≡ true) × (later ≡ sent) → Keeps content has now (next + 1) later
        passed p = record {
          names = keeps.names;
          read = subst (HasRead content keeps.names) (sym p.1) keeps.read;
          are = λ y. (
            λ h. let one = (keeps.are y).0 h in (in_front y (inl one.0), one.1),
            λ h. (keeps.are y).1 (⊎_elim (λ old. old) (λ (is : id ≡ y). absurd (true≢false (sym p.0 ∙ ap has is ∙ h.1))) (cases y h.0), h.1),
          );
        }

        kept : (has id ≡ false) × ((o : StoredObject) × (objects content id ≡ Some o) × (later ≡ with_object o sent)) → Keeps content has now (next + 1) later
        kept p = record {
          names = keeps.names ++ id ∷ [];
          read = HasRead-push content keeps.names sent later id p.1.0 keeps.read p.1.1 p.1.2;
          are = λ y. (
            λ h. ⊎_elim (λ old. let one = (keeps.are y).0 old in (in_front y (inl one.0), one.1))
                (λ (is : id ≡ y). (in_front y (inr is), ap has (sym is) ∙ p.0))
                (Contains-push_cases keeps.names id y h),
            λ h. ⊎_elim (λ old. Contains-append_left keeps.names (id ∷ []) y ((keeps.are y).1 (old, h.1)))
                (λ (is : id ≡ y). Contains-append_right keeps.names (id ∷ []) y (0, omega arith, is))
                (cases y h.0),
          );
        }

  -- at the end, those of all that were met
  pub Keeps-end : (met : List ObjectId) (next : ℕ) (sent : List StoredObject) (keeps : Keeps content has met next sent) → length met ≤ next
      → (id : ObjectId) → Contains keeps.names id ↔ (Contains met id × (has id ≡ false))
  Keeps-end met next sent keeps end id = subst (λ l. Contains keeps.names id ↔ (Contains l id × (has id ≡ false))) (take_all next met end) (keeps.are id)
