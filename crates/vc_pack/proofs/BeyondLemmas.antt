-- Walks down to names that are reached already: what they have met at their end, and what of it other roots do not reach.
use Rattle.std.proofs.Common.{◌≡◌, Bool, true, false, ◌⊎◌, inl, inr, ⊎_elim, List, [], ◌++◌, Option, Some, IsSome, Contains, ◌↔◌, sym, ap, subst, ◌∙◌, refl, if◌then◌else◌, true≢false, ℕ, ◌≤◌, length, arith}
use Rattle.indexmap.specs.IndexSet.{insert_all}
use Rattle.std.proofs.lemmas.List.Elements.{Contains-append_cases}
use Rattle.vc_pack.specs.Sent.{links_beyond}
use Rattle.vc_object_map.proofs.WalkLemmas.{IsFollowed-none, Walks, Walks-start, walked-followed}
use Rattle.vc_object_map.specs.Graph.{IsClosedUnder, LinksTo, Reaches, ReachedFrom, itself, onward}
use Rattle.vc_object.proofs.IdLemmas.{id_eq-same}
use Rattle.vc_object.specs.ObjectId.{id_eq}
use Rattle.vc_object.specs.declared.id.ObjectId.{ObjectId}

-- from the roots these were met: the roots, and the links of each that isn't reached already and is there
pub record IsMetDownTo (links : ObjectId → Option (List ObjectId)) (has : ObjectId → Bool) (roots met : List ObjectId) : Type 0 where
  pub rooted : (id : ObjectId) → Contains roots id → Contains met id
  pub reached : (id : ObjectId) → Contains met id → ReachedFrom links roots id
  pub followed : (id : ObjectId) → Contains met id → (has id ≡ true) ⊎ ((ys : List ObjectId) × (links id ≡ Some ys) × ((y : ObjectId) → Contains ys y → Contains met y))

module _ (links : ObjectId → Option (List ObjectId)) (has : ObjectId → Bool) where
  -- ---- links down to what is reached already
  pub links_beyond-had : (id : ObjectId) → has id ≡ true → links_beyond links has id ≡ Some []
  unfolding links_beyond
  links_beyond-had id is = ap (λ b. if b then Some [] else links id) is

  pub links_beyond-new : (id : ObjectId) → has id ≡ false → links_beyond links has id ≡ links id
  unfolding links_beyond
  links_beyond-new id is = ap (λ b. if b then Some [] else links id) is

  -- a name is reached already, or its links are those that count
  split : (id : ObjectId) → (has id ≡ true) ⊎ (links_beyond links has id ≡ links id)
  split id = by (has id) refl
    where
      by : (b : Bool) → has id ≡ b → (has id ≡ true) ⊎ (links_beyond links has id ≡ links id)
      by true e = inl e
      by false e = inr (links_beyond-new id e)

  linked : (x y : ObjectId) → LinksTo (links_beyond links has) x y → LinksTo links x y
  linked x y l = by (has x) refl
    where
      by : (b : Bool) → has x ≡ b → LinksTo links x y
      by true e =
          let none : l.0 ≡ [] = let same : Some l.0 ≡ Some [] = sym l.1 ∙ links_beyond-had x e in cc same in
          let nowhere : Contains [] y = subst (λ ys. Contains ys y) none l.2 in
          absurd (omega (arith, nowhere.1))
      by false e = (l.0, sym (links_beyond-new x e) ∙ l.1, l.2)

  reaches : {x y : ObjectId} → Reaches (links_beyond links has) x y → Reaches links x y
  reaches itself = itself
  reaches (onward {y} {z} r l) = onward (reaches r) (linked y z l)

  pub ReachedFrom-beyond : (roots : List ObjectId) (y : ObjectId) → ReachedFrom (links_beyond links has) roots y → ReachedFrom links roots y
  ReachedFrom-beyond roots y h = record { root = h.root; is_root = h.is_root; reaches = reaches h.reaches }

  -- ---- what the walk has met at its end
  pub IsMetDownTo-walked : (roots met : List ObjectId) (next : ℕ) → Walks (links_beyond links has) roots met next → length met ≤ next → IsMetDownTo links has roots met
  IsMetDownTo-walked roots met next walk end =
      let followed = walked-followed (links_beyond links has) roots met next walk end in
      record {
        rooted = walk.rooted;
        reached = λ id h. ReachedFrom-beyond roots id (walk.reached id h);
        followed = λ id h.
            let f = followed.follows id h in
            ⊎_elim (λ old. inl old) (λ (same : links_beyond links has id ≡ links id). inr (f.0, sym same ∙ f.1, f.2)) (split id);
      }

  -- `has` tells what other roots reach, all of which is there
  module _ (before : List ObjectId) (exactly : (id : ObjectId) → (has id ≡ true) ↔ ReachedFrom links before id) (whole : (id : ObjectId) → has id ≡ true → IsSome (links id)) where
    module _ (roots met : List ObjectId) (m : IsMetDownTo links has roots met) where
      -- what the roots reach was met, or is reached already
      met_or_had : {x y : ObjectId} → Contains met x ⊎ (has x ≡ true) → Reaches links x y → Contains met y ⊎ (has y ≡ true)
      met_or_had at itself = at
      met_or_had at (onward {y} {z} r l) = ⊎_elim (λ h. ⊎_elim had (here h) (m.followed y h)) had (met_or_had at r)
        where
          had : has y ≡ true → Contains met z ⊎ (has z ≡ true)
          had h = let f = (exactly y).0 h in inr ((exactly z).1 (record { root = f.root; is_root = f.is_root; reaches = onward f.reaches l }))

          here : Contains met y → (ys : List ObjectId) × (links y ≡ Some ys) × ((w : ObjectId) → Contains ys w → Contains met w) → Contains met z ⊎ (has z ≡ true)
          here h f =
              let same : l.0 ≡ f.0 = let e : Some l.0 ≡ Some f.0 = sym l.1 ∙ f.1 in cc e in
              inl (f.2 z (subst (λ ys. Contains ys z) same l.2))

      reached_is : (y : ObjectId) → ReachedFrom links roots y → Contains met y ⊎ (has y ≡ true)
      reached_is y h = met_or_had (inl (m.rooted h.root h.is_root)) h.reaches

      -- what was met and isn't reached already is what the roots reach and those before do not
      pub met_beyond : (id : ObjectId) → (Contains met id × (has id ≡ false)) ↔ (ReachedFrom links roots id × ¬ ReachedFrom links before id)
      met_beyond id = (
        λ h. (m.reached id h.0, λ r. true≢false (sym ((exactly id).1 r) ∙ h.1)),
        λ h. by (has id) refl h.0 h.1,
      )
        where
          by : (b : Bool) → has id ≡ b → ReachedFrom links roots id → ¬ ReachedFrom links before id → Contains met id × (has id ≡ false)
          by true e r out = absurd (out ((exactly id).0 e))
          by false e r out = (⊎_elim (λ at. at) (λ old. absurd (true≢false (sym old ∙ e))) (reached_is id r), e)

      there_met : (y : ObjectId) → Contains met y → IsSome (links y)
      there_met y h = ⊎_elim (whole y) (λ (f : (ys : List ObjectId) × (links y ≡ Some ys) × ((w : ObjectId) → Contains ys w → Contains met w)). subst (λ o. IsSome o) (sym f.1) refl) (m.followed y h)

      -- all is there that either roots reach
      pub closed_beyond : IsClosedUnder links (roots ++ before)
      closed_beyond y h =
          ⊎_elim (λ one. ⊎_elim (there_met y) (whole y) (reached_is y (record { root = h.root; is_root = one; reaches = h.reaches })))
          (λ one. whole y ((exactly y).1 (record { root = h.root; is_root = one; reaches = h.reaches })))
          (Contains-append_cases roots before h.root h.is_root)

-- a walk begins at the roots
pub Walks-first : (links : ObjectId → Option (List ObjectId)) (roots none seen : List ObjectId) → none ≡ [] → seen ≡ insert_all id_eq none roots → Walks links roots seen 0
Walks-first links roots none seen empty added =
    Walks-start links [] roots id_eq id_eq-same seen (IsFollowed-none links [] refl) (added ∙ ap (λ l. insert_all id_eq l roots) empty)
