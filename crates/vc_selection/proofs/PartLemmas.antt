-- What the part of a history within a limit says of the whole.
use Rattle.std.proofs.Common.{◌≡◌, ◌≢◌, ℕ, ◌<◌, ◌≤◌, ◌⊎◌, inl, inr, ⊎_elim, Bool, true, false, if◌then◌else◌, List, ◌++◌, Option, Some, None, IsSome, Contains, ◌↔◌, get_or, position, sym, ap, subst, ◌∙◌, refl, true≢false, arith, nat_le, []}
use Rattle.std.proofs.lemmas.Bool.{le-leb, leb-true}
use Rattle.std.proofs.lemmas.List.Elements.{Contains-append_left, Contains-append_right, Contains-append_cases}
use Rattle.std.proofs.lemmas.List.Quantifiers.{position-Some}
use Rattle.vc_object_map.specs.Graph.{LinksTo, Reaches, ReachedFrom, itself, onward}
use Rattle.vc_object_map.proofs.WalkLemmas.{Reaches-trans}
use Rattle.vc_object.proofs.IdLemmas.{id_eq-same, id_eq_equiv}
use Rattle.vc_object.specs.ObjectId.{id_eq}
use Rattle.vc_object.specs.ObjectMap.{ObjectMap, parents_in}
use Rattle.vc_object.specs.declared.id.ObjectId.{ObjectId}
use Rattle.vc_history.specs.Generation.{Agrees}
use Rattle.vc_object_map.specs.History.{IsCommonAncestor, IsBestCommonAncestor, IsSelected}
use Rattle.vc_selection.specs.Part.{under, IsSettledBelow, IsSettledOutside}
use Rattle.vc_history.specs.Toward.{not_above}
use Rattle.vc_history.specs.Walk.{Gathers, graph_read, parents_read, read_at}
use Rattle.vc_history.proofs.GenerationLemmas.{Contains-from_LinksTo, HasGeneration-parent}
use Rattle.vc_history.proofs.HistoryLemmas.{Reaches-same}
use Rattle.vc_history.proofs.LearntLemmas.{known_below}
use Rattle.vc_lemmas.proofs.Lists.{value_of, some_of}

module _ (known : ObjectId → Option ℕ) (floor : ℕ) where
  from_under : (x : ObjectId) (n : ℕ) → under known floor x ≡ Some n → (known x ≡ Some n) × (n ≤ floor)
  from_under x n = by (known x) refl
    where
      compared : (k : ℕ) (b : Bool) → nat_le k floor ≡ b → known x ≡ Some k → (if b then Some k else None) ≡ Some n → (known x ≡ Some n) × (n ≤ floor)
      compared k true le at h = (at ∙ h, (let k_is : k ≡ n = cc in omega (arith, k_is, leb-true k floor le)))
      compared k false le at h = absurd (cc)

      by : (o : Option ℕ) → known x ≡ o → not_above o (Some floor) ≡ Some n → (known x ≡ Some n) × (n ≤ floor)
      by None at h = absurd (cc)
      by (Some k) at h = compared k (nat_le k floor) refl at h

  to_under : (x : ObjectId) (n : ℕ) → known x ≡ Some n → n ≤ floor → under known floor x ≡ Some n
  to_under x n is low = ap (λ o. not_above o (Some floor)) is ∙ ap (λ b. if b then Some n else None) (le-leb n floor low)

  module _ (parents : ObjectId → Option (List ObjectId)) (agrees : Agrees parents known) where
    -- what is below a commit under the floor is under it
    pub Agrees-under : Agrees parents (under known floor)
    Agrees-under = record {
      generation = λ x n is. agrees.generation x n (from_under x n is).0;
      onward = λ x y some link.
          let n = value_of (under known floor x) some in
          let low = from_under x n.0 n.1 in
          let m = value_of (known y) (agrees.onward x y (some_of (known x) n.0 low.0) link) in
          let less : m.0 < n.0 = HasGeneration-parent parents x y n.0 m.0 (agrees.generation x n.0 low.0) (agrees.generation y m.0 m.1) link in
          some_of (under known floor y) m.0 (to_under y m.0 m.1 (omega (arith, less, low.1)));
    }

  -- what has no number under the floor is not under it
  pub above-under : (x : ObjectId) → ((n : ℕ) → known x ≡ Some n → floor < n) → under known floor x ≡ None
  above-under x above = by (under known floor x) refl
    where
      by : (o : Option ℕ) → under known floor x ≡ o → o ≡ None
      by None e = refl
      by (Some n) e = let low = from_under x n e in absurd (omega (arith, low.1, above n low.0))

module _ (met : List ObjectId) (read : List (List ObjectId)) where
  -- a link that was read is one of a commit that was read
  pub LinksTo-part : (x y : ObjectId) → LinksTo (graph_read met read) x y → Contains met x × Contains (parents_read met read x) y
  LinksTo-part x y l = by (position (id_eq x) met) refl
    where
      same : parents_read met read x ≡ l.0
      same = let e : Some (parents_read met read x) ≡ Some l.0 = l.1 in cc

      linked : Contains (parents_read met read x) y
      linked = subst (λ ys. Contains ys y) (sym same) l.2

      by : (p : Option _) → position (id_eq x) met ≡ p → Contains met x × Contains (parents_read met read x) y
      by None e = let none : Contains [] y = subst (λ p. Contains (read_at read p) y) e linked in absurd (omega (arith, none.1))
      by (Some k) e = let found = position-Some (id_eq x) met k x e in ((k, found.0, sym (id_eq-same x (get_or met k x) found.1)), linked)

module _ (objects : ObjectMap) (beyond : ObjectId → Option ℕ) (roots met : List ObjectId) (read : List (List ObjectId))
    (gathers : Gathers objects beyond roots met read) (agrees : Agrees (parents_in objects) beyond)
    (within : (r : ObjectId) → Contains roots r → beyond r ≡ None) where
  abbrev IsBeyond : ObjectId → Type 0
  IsBeyond y = IsSome (beyond y)

  -- what was read is within the limit
  not_beyond : (x : ObjectId) → Contains met x → ¬ IsBeyond x
  not_beyond x at some = absurd (true≢false (sym (subst (λ o. IsSome o) (⊎_elim (within x) (λ none. none) (gathers.within x at)) some)))

  below_beyond : {x y : ObjectId} → IsBeyond x → Reaches (parents_in objects) x y → IsBeyond y
  below_beyond {x} some way = known_below (parents_in objects) beyond x agrees some way

  LinksTo-whole : (x y : ObjectId) → LinksTo (graph_read met read) x y → LinksTo (parents_in objects) x y
  LinksTo-whole x y l = let h = LinksTo-part met read x y l in (parents_read met read x, gathers.parents x h.0, h.1)

  whole_way : {x y : ObjectId} → Reaches (graph_read met read) x y → Reaches (parents_in objects) x y
  whole_way r = Reaches-same (graph_read met read) (parents_in objects) LinksTo-whole r

  -- a way from a commit that was read was read to its end, or to one beyond the limit
  way_read : {x y : ObjectId} → Contains met x → Reaches (parents_in objects) x y
      → (Reaches (graph_read met read) x y × Contains met y) ⊎ ((z : ObjectId) × Reaches (graph_read met read) x z × IsBeyond z × Reaches (parents_in objects) z y)
  way_read at itself = inl (itself, at)
  way_read {x} at (onward {y} {z} way link) = ⊎_elim
      (λ (h : Reaches (graph_read met read) x y × Contains met y).
      let linked : Contains (parents_read met read y) z = Contains-from_LinksTo (parents_in objects) y z (parents_read met read y) (gathers.parents y h.1) link in
      let further : Reaches (graph_read met read) x z = onward h.0 (parents_read met read y, refl, linked) in
      ⊎_elim (λ here. inl (further, here)) (λ under. inr (z, further, under, itself)) (gathers.onward y z h.1 linked))
      (λ s. inr (s.0, s.1, s.2, onward s.3 link))
      (way_read at way)

  -- a way to a commit that was read was read
  way_to_read : {x y : ObjectId} → Contains met x → Contains met y → Reaches (parents_in objects) x y → Reaches (graph_read met read) x y
  way_to_read {x} {y} at end way = ⊎_elim (λ h. h.0) (λ s. absurd (not_beyond y end (below_beyond s.2 s.3))) (way_read at way)

  -- where nothing lies beyond, all that was met was read, and the part is the whole
  module _ (nothing : (x : ObjectId) → beyond x ≡ None) where
    none_beyond : (P : Type 0) (x : ObjectId) → IsBeyond x → P
    none_beyond P x some = absurd (true≢false (sym (subst (λ o. IsSome o) (nothing x) some)))

    all_was_read : {x y : ObjectId} → Contains met x → Reaches (graph_read met read) x y → Contains met y
    all_was_read at itself = at
    all_was_read at (onward {y} {z} way link) =
        let h = LinksTo-part met read y z link in
        ⊎_elim (λ here. here) (none_beyond (Contains met z) z) (gathers.onward y z h.0 h.1)

    pub all_settled_outside : (include exclude : List ObjectId) → roots ≡ include ++ exclude → IsSettledOutside met read include exclude
    all_settled_outside include exclude are y r =
        let at : Contains roots r.root = subst (λ l. Contains l r.root) (sym are) (Contains-append_left include exclude r.root r.is_root) in
        inl (all_was_read (gathers.rooted r.root at) r.reaches)

    module _ (a b : ObjectId) (is_a : Contains roots a) (is_b : Contains roots b) where
      pub all_settled_below : IsSettledBelow met read a b
      all_settled_below y way = inl (⊎_elim (all_was_read (gathers.rooted a is_a)) (all_was_read (gathers.rooted b is_b)) way)

      whole_read : {x y : ObjectId} → Contains roots x → Reaches (parents_in objects) x y → Reaches (graph_read met read) x y
      whole_read {x} {y} is_root way = ⊎_elim (λ h. h.0) (λ s. none_beyond (Reaches (graph_read met read) x y) s.0 s.2) (way_read (gathers.rooted x is_root) way)

      pub same_common : (c : ObjectId) → IsCommonAncestor (graph_read met read) a b c ↔ IsCommonAncestor (parents_in objects) a b c
      same_common c = (λ h. (whole_way h.0, whole_way h.1), λ h. (whole_read is_a h.0, whole_read is_b h.1))

  module _ (a b : ObjectId) (is_a : Contains roots a) (is_b : Contains roots b) (settled : IsSettledBelow met read a b) where
    -- a way from one of the two to a best common ancestor was read
    way_to_best : (c x : ObjectId) → Contains roots x → ((y : ObjectId) → Reaches (graph_read met read) x y → Reaches (graph_read met read) a y ⊎ Reaches (graph_read met read) b y)
        → IsBestCommonAncestor (parents_in objects) a b c → Reaches (parents_in objects) x c → Reaches (graph_read met read) x c
    way_to_best c x is_x sides best way = ⊎_elim (λ h. h.0)
        (λ s. ⊎_elim (λ here. absurd (not_beyond s.0 here s.2))
        (λ d.
        let differs : d.0 ≢ c = λ is. not_beyond c (subst (Contains met) is d.2) (below_beyond s.2 s.3) in
        absurd (best.best d.0 (whole_way d.1.0, whole_way d.1.1) differs (Reaches-trans (parents_in objects) (whole_way d.3) s.3)))
        (settled s.0 (sides s.0 s.1)))
        (way_read (gathers.rooted x is_x) way)

    pub best_in_part : (c : ObjectId) → IsBestCommonAncestor (parents_in objects) a b c → IsBestCommonAncestor (graph_read met read) a b c
    best_in_part c best = record {
      common = (way_to_best c a is_a (λ y r. inl r) best best.common.0, way_to_best c b is_b (λ y r. inr r) best best.common.1);
      best = λ d shared differs back. best.best d (whole_way shared.0, whole_way shared.1) differs (whole_way back);
    }

    -- a best one of the part was read
    best_was_read : (c : ObjectId) → IsBestCommonAncestor (graph_read met read) a b c → Contains met c
    best_was_read c best = ⊎_elim (λ here. here) (λ d. by d.0 d.1 d.2 d.3 (id_eq d.0 c) refl) (settled c (inl best.common.0))
      where
        by : (d : ObjectId) → IsCommonAncestor (graph_read met read) a b d → Contains met d → Reaches (graph_read met read) d c → (same : Bool) → id_eq d c ≡ same → Contains met c
        by d shared here way true e = subst (Contains met) (id_eq-same d c e) here
        by d shared here way false e = absurd (best.best d shared (λ is. true≢false (sym (id_eq_equiv.refl d) ∙ ap (id_eq d) is ∙ e)) way)

    pub best_of_part : (c : ObjectId) → IsBestCommonAncestor (graph_read met read) a b c → IsBestCommonAncestor (parents_in objects) a b c
    best_of_part c best =
        let here = best_was_read c best in
        record {
          common = (whole_way best.common.0, whole_way best.common.1);
          best = λ d shared differs back.
              let from_a = way_here a d is_a here shared.0 back in
              let from_b = way_here b d is_b here shared.1 back in
              best.best d (from_a.0, from_b.0) differs (way_to_read from_a.1 here back);
        }
      where
        -- a name on a way to what was read was read
        way_here : (x d : ObjectId) → Contains roots x → Contains met c → Reaches (parents_in objects) x d → Reaches (parents_in objects) d c → Reaches (graph_read met read) x d × Contains met d
        way_here x d is_x here to back = ⊎_elim (λ h. h) (λ s. absurd (not_beyond c here (below_beyond s.2 (Reaches-trans (parents_in objects) s.3 back)))) (way_read (gathers.rooted x is_x) to)

  -- what was met and no excluded commit reaches is selected, where what was met and not read lies below an excluded one
  module _ (include exclude : List ObjectId) (are : roots ≡ include ++ exclude) (settled : IsSettledOutside met read include exclude) where
    included_met : (r : ObjectId) → Contains include r → Contains met r
    included_met r at = gathers.rooted r (subst (λ l. Contains l r) (sym are) (Contains-append_left include exclude r at))

    excluded_met : (r : ObjectId) → Contains exclude r → Contains met r
    excluded_met r at = gathers.rooted r (subst (λ l. Contains l r) (sym are) (Contains-append_right include exclude r at))

    -- that an excluded commit reaches what was met was read
    excluded_read : (y : ObjectId) → Contains met y → ReachedFrom (parents_in objects) exclude y → ReachedFrom (graph_read met read) exclude y
    excluded_read y at r = record { root = r.root; is_root = r.is_root; reaches = way_to_read (excluded_met r.root r.is_root) at r.reaches }

    -- and what lies below a name that an excluded commit reaches by what was read is excluded
    excluded_below : (z y : ObjectId) → ReachedFrom (graph_read met read) exclude z → Reaches (parents_in objects) z y → ReachedFrom (parents_in objects) exclude y
    excluded_below z y r way = record { root = r.root; is_root = r.is_root; reaches = Reaches-trans (parents_in objects) (whole_way r.reaches) way }

    pub selected_in_part : (y : ObjectId) → (Contains met y × ¬ ReachedFrom (graph_read met read) exclude y) ↔ IsSelected (parents_in objects) include exclude y
    selected_in_part y = (to, from)
      where
        to : Contains met y × ¬ ReachedFrom (graph_read met read) exclude y → IsSelected (parents_in objects) include exclude y
        to h =
            let out : ¬ ReachedFrom (parents_in objects) exclude y = λ r. h.1 (excluded_read y h.0 r) in
            let r = gathers.reached y h.0 in (
              ⊎_elim (λ root. record { root = r.root; is_root = root; reaches = r.reaches }) (λ root. absurd (out (record { root = r.root; is_root = root; reaches = r.reaches })))
                  (Contains-append_cases include exclude r.root (subst (λ l. Contains l r.root) are r.is_root)),
              out,
            )

        from : IsSelected (parents_in objects) include exclude y → Contains met y × ¬ ReachedFrom (graph_read met read) exclude y
        from h = (
          ⊎_elim (λ k. k.1)
              (λ s. ⊎_elim (λ here. absurd (not_beyond s.0 here s.2)) (λ e. absurd (h.1 (excluded_below s.0 y e s.3)))
              (settled s.0 (record { root = h.0.root; is_root = h.0.is_root; reaches = s.1 })))
              (way_read (included_met h.0.root h.0.is_root) h.0.reaches),
          λ e. h.1 (excluded_below y y e itself),
        )
