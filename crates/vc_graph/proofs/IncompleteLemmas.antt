-- A walk from each root in turn, over what the walks before it have met.
use Rattle.std.proofs.Common.{◌≡◌, ℕ, suc, ◌+◌, ◌<◌, ◌≤◌, ⊎_elim, List, [], ◌∷◌, ◌++◌, length, take, drop, Option, Some, None, IsSome, Contains, sym, ap, subst, ◌∙◌, refl, arith, slice_get, ◌↔◌, append_assoc, true≢false}
use Rattle.std.proofs.Math.Seq.{take-suc}
use Rattle.std.proofs.lemmas.List.{take-append-drop, take_all}
use Rattle.std.proofs.lemmas.List.Elements.{Contains-append_left, Contains-append_right, Contains-push_cases}
use Rattle.std.proofs.lemmas.Option.{get_or_from_slice_get, slice_get_within}
use Rattle.vc_object_map.specs.Graph.{Reaches, ReachedFrom, IsFollowed, IsClosedUnder, IsMissing, itself}
use Rattle.vc_graph.specs.Incomplete.{IsFirstIncomplete}
use Rattle.vc_object_map.proofs.WalkLemmas.{Contains-reached, Contains-from_slice_get, IsClosedUnder-from_followed, IsFollowed-none}

-- the roots up to one, that one, and those behind it
pub parted_at : {X : Type 0} (xs : List X) (n : ℕ) (x : X) → slice_get xs n ≡ Some x → xs ≡ take n xs ++ x ∷ drop (suc n) xs
parted_at xs n x at =
    let here : n < length xs = slice_get_within xs n x at in
    let front : take (suc n) xs ≡ take n xs ++ x ∷ [] = take-suc xs n x here ∙ ap (λ y. take n xs ++ y ∷ []) (get_or_from_slice_get xs n x x at) in
    sym (take-append-drop (suc n) xs) ∙ ap (λ l. l ++ drop (suc n) xs) front ∙ append_assoc (take n xs) (x ∷ []) (drop (suc n) xs)

module _ {Id : Type 0} (links : Id → Option (List Id)) (roots : List Id) where
  -- what the first `next` roots reach was met
  pub record Covers (met : List Id) (next : ℕ) : Type 0 where
    pub followed : IsFollowed links met
    pub rooted : (y : Id) → Contains (take next roots) y → Contains met y
    pub reached : (y : Id) → Contains met y → ReachedFrom links roots y

  pub Covers-start : (met : List Id) → met ≡ [] → Covers met 0
  Covers-start met none = record {
    followed = IsFollowed-none links met none;
    rooted = λ y h. absurd (omega (arith, h.1));
    reached = λ y h. absurd (omega (arith, h.1, ap length none));
  }

  -- what the roots before a place reach is there
  pub Covers-closed : (met : List Id) (next : ℕ) → Covers met next → IsClosedUnder links (take next roots)
  Covers-closed met next covers = IsClosedUnder-from_followed links (take next roots) met
      (λ y h. Contains-reached links roots met covers.followed (covers.rooted h.root h.is_root) h.reaches) covers.followed

  -- at the end, what all roots reach is there
  pub Covers-end : (met : List Id) (next : ℕ) → Covers met next → length roots ≤ next → IsClosedUnder links roots
  Covers-end met next covers end =
      let all : take next roots ≡ roots = take_all next roots end in
      subst (IsClosedUnder links) all (Covers-closed met next covers)

  module _ (met : List Id) (next : ℕ) (root : Id) (covers : Covers met next) (at : slice_get roots next ≡ Some root) where
    -- what the next walk meets is reached from the roots
    pub ReachedFrom-next : (y : Id) → ReachedFrom links (met ++ root ∷ []) y → ReachedFrom links roots y
    ReachedFrom-next y h =
        ⊎_elim (λ old. covers.reached y (Contains-reached links roots met covers.followed old h.reaches))
        (λ is. record { root = root; is_root = Contains-from_slice_get roots next root at; reaches = subst (λ r. Reaches links r y) (sym is) h.reaches })
        (Contains-push_cases met root h.root h.is_root)

    -- a walk that comes to its end covers one root more
    pub Covers-next : (now : List Id) → IsFollowed links now → ((y : Id) → Contains now y ↔ ReachedFrom links (met ++ root ∷ []) y) → Covers now (next + 1)
    Covers-next now followed both =
        let from : (x : Id) → Contains (met ++ root ∷ []) x → Contains now x = λ x h. (both x).1 (record { root = x; is_root = h; reaches = itself }) in
        let here : next < length roots = slice_get_within roots next root at in
        let front : take (suc next) roots ≡ take next roots ++ root ∷ [] = take-suc roots next root here ∙ ap (λ y. take next roots ++ y ∷ []) (get_or_from_slice_get roots next root root at) in
        let place : suc next ≡ next + 1 = omega arith in
        subst (Covers now) place (record {
          followed = followed;
          rooted = λ y h. ⊎_elim (λ old. from y (Contains-append_left met (root ∷ []) y (covers.rooted y old)))
              (λ is. from y (subst (λ x. Contains (met ++ root ∷ []) x) is (Contains-append_right met (root ∷ []) root (0, omega arith, refl))))
              (Contains-push_cases (take next roots) root y (subst (λ l. Contains l y) front h));
          reached = λ y h. ReachedFrom-next y ((both y).0 h);
        })

    -- a walk that meets an absent name has found the first incomplete root
    pub IsFirstIncomplete-at : (y : Id) → IsMissing links (met ++ root ∷ []) y → IsFirstIncomplete links roots root
    IsFirstIncomplete-at y h =
        let is : root ≡ h.0.root =
        ⊎_elim (λ old.
        let f = covers.followed.follows y (Contains-reached links roots met covers.followed old h.0.reaches) in
        let there : IsSome {T = List Id} None = subst (λ o. IsSome o) h.1 (subst (λ o. IsSome o) (sym f.1) refl) in
        absurd (true≢false (sym there)))
        (λ e. e) (Contains-push_cases met root h.0.root h.0.is_root) in
        record {
          before = take next roots;
          after = drop (suc next) roots;
          place = parted_at roots next root at;
          closed = Covers-closed met next covers;
          incomplete = record { missing = y; reaches = subst (λ r. Reaches links r y) (sym is) h.0.reaches; absent = h.1 };
        }
