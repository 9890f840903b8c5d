-- A walk that goes on over the names that were met, and one that passes over those that are absent.
use Rattle.std.proofs.Common.{◌≡◌, ℕ, ◌+◌, ◌<◌, ◌≤◌, Bool, true, ◌⊎◌, inl, inr, List, [], ◌++◌, length, length-append, get_or, Option, Some, None, IsSome, Contains, sym, ap, subst, ◌∙◌, refl, arith, slice_get, ◌↔◌, true≢false}
use Rattle.std.specs.Prelude.{is_some, unwrap_or}
use Rattle.std.proofs.Math.ListN.{get_or-append}
use Rattle.std.proofs.lemmas.List.Elements.{Contains-append_left}
use Rattle.std.proofs.lemmas.Option.{get_or_from_slice_get, slice_get_within}
use Rattle.std.proofs.lemmas.Bool.{cases_lt}
use Rattle.indexmap.specs.IndexSet.{insert_key, insert_all}
use Rattle.indexmap.proofs.CallerLemmas.{Contains-insert_key}
use Rattle.vc_object_map.proofs.WalkLemmas.{Walks, Walks-start, Walks-step, Contains-insert_key_cases, Contains-insert_all_cases, Contains-insert_all_new, insert_key-prefix, insert_all-prefix, IsFollowed-none, walked}
use Rattle.vc_object_map.specs.Graph.{LinksTo, Reaches, ReachedFrom, itself, onward}
use Rattle.vc_object_map.specs.Present.{IsPresentFrom}
use Rattle.vc_object.specs.Decoding.{StoredObject}
use Rattle.vc_object.specs.ObjectMap.{ObjectMap, links_in}
use Rattle.vc_object.specs.declared.id.ObjectId.{ObjectId}
use Rattle.vc_object.proofs.ObjectMaps.{links_in-none, links_in-some}
use Rattle.vc_graph.specs.Walking.{GoesOn}

module _ {Id : Type 0} (links : Id → Option (List Id)) where
  -- what is there has these links by `others`, too; of what is absent they may say anything
  abbrev pub Extends : (Id → Option (List Id)) → Type 0
  Extends others = (x : Id) (ys : List Id) → links x ≡ Some ys → others x ≡ Some ys

  -- ---- a walk goes on

  pub GoesOn-start : (met : List Id) (from : ℕ) → GoesOn links met from met from
  GoesOn-start met from = record {
    reached = λ y h. record { root = y; is_root = h; reaches = itself };
    within = λ inside. inside;
    followed = λ k d least below. absurd (omega (arith, least, below));
  }

  module _ (eq : Id → Id → Bool) (same : (x y : Id) → eq x y ≡ true → x ≡ y) where
    -- the next name is there, and its links were met after it
    pub GoesOn-step : (old seen now ys : List Id) (from next : ℕ) (id : Id) → GoesOn links old from seen next → slice_get seen next ≡ Some id → links id ≡ Some ys
        → now ≡ insert_all eq seen ys → GoesOn links old from now (next + 1)
    GoesOn-step old seen now ys from next id goes at links_of added =
        let here : next < length seen = slice_get_within seen next id at in
        let prefix = insert_all-prefix eq seen ys in
        let grown : now ≡ seen ++ prefix.0 = added ∙ prefix.1 in
        let stays : (y : Id) → Contains seen y → Contains now y = λ y h. subst (λ l. Contains l y) (sym grown) (Contains-append_left seen prefix.0 y h) in
        let same_at : (k : ℕ) (d : Id) → k < length seen → get_or now k d ≡ get_or seen k d = λ k d below. ap (λ l. get_or l k d) grown ∙ get_or-append seen prefix.0 d k below in
        record {
          reached = λ y h. elim (Contains-insert_all_cases eq seen ys y (subst (λ l. Contains l y) added h)) [
            | inl before ↦ goes.reached y before
            | inr linked ↦
                let r = goes.reached id (next, here, get_or_from_slice_get seen next id id at) in
                record { root = r.root; is_root = r.is_root; reaches = onward r.reaches (ys, links_of, linked) }
          ];
          within = λ inside. omega (arith, ap length grown, length-append seen prefix.0, here);
          followed = λ k d least below. elim (cases_lt k next) [
            | inl before ↦
                let f = goes.followed k d least before in
                (f.0, ap links (same_at k d (omega (arith, before, here))) ∙ f.1, λ y h. stays y (f.2 y h))
            | inr last ↦
                let is : k ≡ next = omega (arith, below, last) in (
                  ys,
                  ap links (same_at k d (omega (arith, is, here)) ∙ ap (λ i. get_or seen i d) is ∙ get_or_from_slice_get seen next id d at) ∙ links_of,
                  λ y h. subst (λ l. Contains l y) (sym added) (Contains-insert_all_new eq same seen ys y h),
                )
          ];
        }

  -- it has come to the end, where no name is left
  pub GoesOn-end : (old seen : List Id) (from next : ℕ) → GoesOn links old from seen next → length seen ≤ next → GoesOn links old from seen (length seen)
  GoesOn-end old seen from next goes end = record {
    reached = goes.reached;
    within = λ inside. omega arith;
    followed = λ k d least below. goes.followed k d least (omega (arith, below, end));
  }

  -- ---- a walk that has come to the first place has come to the second, by whatever others are taken for the links
  module _ (others : Id → Option (List Id)) (extends : Extends others) (roots old : List Id) (from : ℕ) (walk : Walks others roots old from) where
    Reaches-on : {a x y : Id} → Reaches others a x → Reaches links x y → Reaches others a y
    Reaches-on first itself = first
    Reaches-on first (onward {y} {z} r l) = onward (Reaches-on first r) (l.0, extends y l.0 l.1, l.2)

    pub ReachedFrom-on : (y : Id) → ReachedFrom links old y → ReachedFrom others roots y
    ReachedFrom-on y h =
        let r = walk.reached h.root h.is_root in
        record { root = r.root; is_root = r.is_root; reaches = Reaches-on r.reaches h.reaches }

    pub Walks-on : (new more : List Id) (to : ℕ) → new ≡ old ++ more → GoesOn links old from new to → Walks others roots new to
    Walks-on new more to grown goes =
        let stays : (y : Id) → Contains old y → Contains new y = λ y h. subst (λ l. Contains l y) (sym grown) (Contains-append_left old more y h) in
        let same_at : (k : ℕ) (d : Id) → k < length old → get_or new k d ≡ get_or old k d = λ k d below. ap (λ l. get_or l k d) grown ∙ get_or-append old more d k below in
        record {
          reached = λ y h. ReachedFrom-on y (goes.reached y h);
          rooted = λ y h. stays y (walk.rooted y h);
          within = goes.within walk.within;
          followed = λ k d below. elim (cases_lt k from) [
            | inl before ↦
                let f = walk.followed k d before in
                (f.0, ap others (same_at k d (omega (arith, before, walk.within))) ∙ f.1, λ y h. stays y (f.2 y h))
            | inr after ↦
                let f = goes.followed k d (omega (arith, after)) below in
                (f.0, extends (get_or new k d) f.0 f.1, f.2)
          ];
        }

  -- ---- an absent name links to nothing

  -- the links of a name, and none of one that is absent
  abbrev pub links_or_none : Id → Option (List Id)
  links_or_none x = Some (unwrap_or (links x) [])

  pub Extends-or_none : Extends links_or_none
  Extends-or_none x ys is = ap (λ o. Some (unwrap_or o [])) is

  LinksTo-from_or_none : (x y : Id) → LinksTo links_or_none x y → LinksTo links x y
  LinksTo-from_or_none x y l = by (links x) refl
    where
      by : (o : Option (List Id)) → links x ≡ o → LinksTo links x y
      by None none =
          let empty : Some l.0 ≡ Some [] = sym l.1 ∙ ap (λ o. Some (unwrap_or o [])) none in
          let no : l.0 ≡ [] = ap (λ o. unwrap_or o []) empty in
          absurd (omega (arith, l.2.1, ap length no))
      by (Some ys) some =
          let these : Some l.0 ≡ Some ys = sym l.1 ∙ ap (λ o. Some (unwrap_or o [])) some in
          let is : l.0 ≡ ys = ap (λ o. unwrap_or o []) these in
          (ys, some, subst (λ zs. Contains zs y) is l.2)

  Reaches-from_or_none : {x y : Id} → Reaches links_or_none x y → Reaches links x y
  Reaches-from_or_none itself = itself
  Reaches-from_or_none (onward {y} {z} r l) = onward (Reaches-from_or_none r) (LinksTo-from_or_none y z l)

  Reaches-to_or_none : {x y : Id} → Reaches links x y → Reaches links_or_none x y
  Reaches-to_or_none itself = itself
  Reaches-to_or_none (onward {y} {z} r l) = onward (Reaches-to_or_none r) (l.0, Extends-or_none y l.0 l.1, l.2)

  -- so the same is reached
  pub ReachedFrom-from_or_none : (roots : List Id) (y : Id) → ReachedFrom links_or_none roots y → ReachedFrom links roots y
  ReachedFrom-from_or_none roots y h = record { root = h.root; is_root = h.is_root; reaches = Reaches-from_or_none h.reaches }

  pub ReachedFrom-to_or_none : (roots : List Id) (y : Id) → ReachedFrom links roots y → ReachedFrom links_or_none roots y
  ReachedFrom-to_or_none roots y h = record { root = h.root; is_root = h.is_root; reaches = Reaches-to_or_none h.reaches }

  -- ---- a walk that passes over absent names
  module _ (roots : List Id) where
    -- So many of the names that were met were read, and those of them that are absent were passed over.
    pub record Passes (met absent : List Id) (next : ℕ) : Type 0 where
      pub walks : Walks links_or_none roots met next
      pub passed : (y : Id) → Contains absent y → links y ≡ None
      pub there : (k : ℕ) (d : Id) → k < next → IsSome (links (get_or met k d)) ⊎ Contains absent (get_or met k d)

    pub Passes-on : (met now absent more : List Id) (next to : ℕ) → Passes met absent next → now ≡ met ++ more → GoesOn links met next now to → Passes now absent to
    Passes-on met now absent more next to passes grown goes = record {
      walks = Walks-on links_or_none Extends-or_none roots met next passes.walks now more to grown goes;
      passed = passes.passed;
      there = λ k d below. elim (cases_lt k next) [
        | inl before ↦
            let same : get_or now k d ≡ get_or met k d = ap (λ l. get_or l k d) grown ∙ get_or-append met more d k (omega (arith, before, passes.walks.within)) in
            subst (λ x. IsSome (links x) ⊎ Contains absent x) (sym same) (passes.there k d before)
        | inr after ↦ inl (subst (λ x. IsSome x) (sym (goes.followed k d (omega (arith, after)) below).1) refl)
      ];
    }

    -- at the end what was met and not passed over is what the roots reach and what is there
    pub Passes-end : (met absent : List Id) → Passes met absent (length met) → (y : Id) → (Contains met y × ¬ Contains absent y) ↔ (ReachedFrom links roots y × IsSome (links y))
    Passes-end met absent passes y =
        let all = walked links_or_none roots met (length met) passes.walks (omega arith) y in (
          λ h.
              let some : IsSome (links y) =
              elim (passes.there h.0.0 y h.0.1) [
                | inl some ↦ subst (λ x. IsSome (links x)) h.0.2 some
                | inr among ↦ absurd (h.1 (subst (λ x. Contains absent x) h.0.2 among))
              ] in
              (ReachedFrom-from_or_none roots y (all.0 h.0), some),
          λ h. (all.1 (ReachedFrom-to_or_none roots y h.0), λ among. true≢false (sym h.1 ∙ ap is_some (passes.passed y among))),
        )

    module _ (eq : Id → Id → Bool) (same : (x y : Id) → eq x y ≡ true → x ≡ y) where
      pub Passes-start : (none met : List Id) → none ≡ [] → met ≡ insert_all eq none roots → Passes met none 0
      Passes-start none met empty added =
          let roots_met : met ≡ insert_all eq [] roots = added ∙ ap (λ l. insert_all eq l roots) empty in
          record {
            walks = Walks-start links_or_none [] roots eq same met (IsFollowed-none links_or_none [] refl) roots_met;
            passed = λ y among. absurd (omega (arith, among.1, ap length empty));
            there = λ k d below. absurd (omega (arith, below));
          }

      -- the name at the place that was come to is absent
      pub Passes-over : (met absent more : List Id) (place : ℕ) (id : Id) → Passes met absent place → slice_get met place ≡ Some id → links id ≡ None → more ≡ insert_key eq absent id → Passes met more (place + 1)
      Passes-over met absent more place id passes at none added =
          let prefix = insert_key-prefix eq absent id in
          let kept : (y : Id) → Contains absent y → Contains more y = λ y h. subst (λ l. Contains l y) (sym (added ∙ prefix.1)) (Contains-append_left absent prefix.0 y h) in
          record {
            walks = Walks-step links_or_none roots eq same met met [] place id passes.walks at (ap (λ o. Some (unwrap_or o [])) none) refl;
            passed = λ y among.
                elim (Contains-insert_key_cases eq absent id y (subst (λ l. Contains l y) added among)) [
                  | inl before ↦ passes.passed y before
                  | inr is ↦ subst (λ x. links x ≡ None) is none
                ];
            there = λ k d below. elim (cases_lt k place) [
              | inl before ↦ elim (passes.there k d before) [ inl some ↦ inl some | inr among ↦ inr (kept (get_or met k d) among) ]
              | inr last ↦
                  let is : k ≡ place = omega (arith, below, last) in
                  let name : get_or met k d ≡ id = ap (λ i. get_or met i d) is ∙ get_or_from_slice_get met place id d at in
                  inr (subst (λ x. Contains more x) (sym name) (subst (λ l. Contains l id) (sym added) (Contains-insert_key eq same absent id)))
            ];
          }

-- what has links is there, and what is there has links
module _ (objects : ObjectMap) (id : ObjectId) where
  there-from_links : IsSome (links_in objects id) → IsSome (objects id)
  there-from_links some = by (objects id) refl
    where
      by : (o : Option StoredObject) → objects id ≡ o → IsSome o
      by None none = absurd (true≢false (sym some ∙ ap is_some (links_in-none objects id none)))
      by (Some object) found = refl

  links-from_there : IsSome (objects id) → IsSome (links_in objects id)
  links-from_there some = by (objects id) refl some
    where
      by : (o : Option StoredObject) → objects id ≡ o → IsSome o → IsSome (links_in objects id)
      by None none never = absurd (true≢false (sym never))
      by (Some object) found is = subst (λ o. IsSome o) (sym (links_in-some objects id object found)) refl

-- the same of the objects
pub Present-objects : (objects : ObjectMap) (roots : List ObjectId) (id : ObjectId) {Met : Type 0} → Met ↔ (ReachedFrom (links_in objects) roots id × IsSome (links_in objects id)) → Met ↔ IsPresentFrom objects roots id
Present-objects objects roots id both = (λ h. ((both.0 h).0, there-from_links objects id (both.0 h).1), λ h. both.1 (h.0, links-from_there objects id h.1))
