-- Layers: what they have, what a walk down to them meets, and when they stay right.
use Rattle.std.proofs.Common.{◌≡◌, ◌↔◌, ◌<◌, ◌≤◌, ◌+◌, ◌⊎◌, inl, inr, ⊎_elim, ◌++◌, ◌∷◌, [], ℕ, zero, suc, Bool, true, false, not, List, Option, Some, None, IsSome, Contains, length, length-append, sym, ap, subst, ◌∙◌, refl, arith, true≢false, lt-ltb, ltb-true}
use Rattle.std.specs.Option.{option_map}
use Rattle.std.proofs.Math.ListN.{get_or-append}
use Rattle.std.proofs.Math.Seq.{get_or-append_seam}
use Rattle.std.proofs.lemmas.Bool.{cases_lt}
use Rattle.vc_lemmas.proofs.Lists.{value_of, some_of}
use Rattle.vc_object_map.specs.Graph.{IsClosedUnder, IsReachedBeyond, LinksTo, Reaches, ReachedFrom, itself, onward}
use Rattle.vc_object_map.proofs.WalkLemmas.{ReachedFrom-trans, Reaches-trans}
use Rattle.vc_history.proofs.FilterLemmas.{Contains-from_filter, Contains-filter}
use Rattle.vc_known.specs.Layers.{AddsLayer, AreLayers, IsMetAbove, IsWithin, ReachesLayers, above, is_below, last_roots, links_above}

-- ---- one name
module _ {Id : Type 0} (layers : Id → Option ℕ) (x : Id) where
  pub IsWithin-less : (count more : ℕ) → count ≤ more → IsWithin layers count x → IsWithin layers more x
  IsWithin-less count more less h = record { layer = h.layer; has = h.has; first = omega (arith, h.first, less) }

  pub not_within-none : (count : ℕ) → layers x ≡ None → ¬ IsWithin layers count x
  not_within-none count none h = let no : None ≡ Some h.layer = sym none ∙ h.has in absurd (cc)

  pub not_within-zero : ¬ IsWithin layers 0 x
  not_within-zero h = omega (arith, h.first)

  -- the test tells
  pub IsWithin-from_test : (count : ℕ) → is_below count (layers x) ≡ true → IsWithin layers count x
  IsWithin-from_test count is = by (layers x) refl is
    where
      by : (o : Option ℕ) → layers x ≡ o → is_below count o ≡ true → IsWithin layers count x
      by None e h = absurd (true≢false (sym h))
      by (Some layer) e h = record { layer = layer; has = e; first = ltb-true layer count h }

  pub test-from_IsWithin : (count : ℕ) → IsWithin layers count x → is_below count (layers x) ≡ true
  test-from_IsWithin count h = ap (is_below count) h.has ∙ lt-ltb h.layer count h.first

  pub within_cases : (count : ℕ) → IsWithin layers count x ⊎ (is_below count (layers x) ≡ false)
  within_cases count = by (is_below count (layers x)) refl
    where
      by : (b : Bool) → is_below count (layers x) ≡ b → IsWithin layers count x ⊎ (is_below count (layers x) ≡ false)
      by true e = inl (IsWithin-from_test count e)
      by false e = inr e

  pub not_within : (count : ℕ) → is_below count (layers x) ≡ false → ¬ IsWithin layers count x
  not_within count e h = true≢false (sym (test-from_IsWithin count h) ∙ e)

  pub not_below : (count : ℕ) → ¬ IsWithin layers count x → is_below count (layers x) ≡ false
  not_below count out = ⊎_elim (λ h. absurd (out h)) (λ e. e) (within_cases count)

-- ---- the names of a list that are above
module _ {Id : Type 0} (layers : Id → Option ℕ) (count : ℕ) where
  pub Contains-from_above : (xs : List Id) (x : Id) → Contains (above layers count xs) x → Contains xs x × ¬ IsWithin layers count x
  Contains-from_above xs x h =
      let both = Contains-from_filter (λ id. not (is_below count (layers id))) xs x h in
      (both.0, λ at. true≢false (sym both.1 ∙ ap not (test-from_IsWithin layers x count at)))

  pub Contains-above : (xs : List Id) (x : Id) → Contains xs x → ¬ IsWithin layers count x → Contains (above layers count xs) x
  Contains-above xs x h out = Contains-filter (λ id. not (is_below count (layers id))) xs x h (ap not (not_below layers x count out))

-- ---- a walk down to layers is a walk
module _ {Id : Type 0} (links : Id → Option (List Id)) (layers : Id → Option ℕ) (count : ℕ) where
  pub links_above-some : (x : Id) (ys : List Id) → links x ≡ Some ys → links_above links layers count x ≡ Some (above layers count ys)
  links_above-some x ys is = ap (option_map (above layers count)) is

  pub links_above-none : (x : Id) → links x ≡ None → links_above links layers count x ≡ None
  links_above-none x none = ap (option_map (above layers count)) none

  pub LinksTo-from_above : (x y : Id) → LinksTo (links_above links layers count) x y → LinksTo links x y × ¬ IsWithin layers count y
  LinksTo-from_above x y l = by (links x) refl
    where
      by : (o : Option (List Id)) → links x ≡ o → LinksTo links x y × ¬ IsWithin layers count y
      by None e = let no : None ≡ Some l.0 = sym (links_above-none x e) ∙ l.1 in absurd (cc)
      by (Some ys) e =
          let is : l.0 ≡ above layers count ys = let same : Some l.0 ≡ Some (above layers count ys) = sym l.1 ∙ links_above-some x ys e in cc same in
          let both = Contains-from_above layers count ys y (subst (λ zs. Contains zs y) is l.2) in
          ((ys, e, both.0), both.1)

  pub LinksTo-above : (x y : Id) → LinksTo links x y → ¬ IsWithin layers count y → LinksTo (links_above links layers count) x y
  LinksTo-above x y l out = (above layers count l.0, links_above-some x l.0 l.1, Contains-above layers count l.0 y l.2 out)

  pub Reaches-from_above : {x y : Id} → Reaches (links_above links layers count) x y → Reaches links x y
  Reaches-from_above itself = itself
  Reaches-from_above (onward {y} {z} r l) = onward (Reaches-from_above r) (LinksTo-from_above y z l).0

  out_along : {x y : Id} → ¬ IsWithin layers count x → Reaches (links_above links layers count) x y → ¬ IsWithin layers count y
  out_along out itself = out
  out_along out (onward {y} {z} r l) = (LinksTo-from_above y z l).1

  -- what it meets is reached, and above
  pub IsMetAbove-reached : (roots : List Id) (x : Id) → IsMetAbove links layers count roots x → ReachedFrom links roots x × ¬ IsWithin layers count x
  IsMetAbove-reached roots x h =
      let root = Contains-from_above layers count roots h.root h.is_root in
      (record { root = h.root; is_root = root.0; reaches = Reaches-from_above h.reaches }, out_along root.1 h.reaches)

module _ {Id : Type 0} (links : Id → Option (List Id)) (moments : List (List Id)) (layers : Id → Option ℕ) (are : AreLayers links moments layers) where
  -- ---- what the first layers have
  -- a name that has a layer is in one of all
  pub IsWithin-all : (x : Id) → IsSome (layers x) → IsWithin layers (length moments) x
  IsWithin-all x some = let n = value_of (layers x) some in record { layer = n.0; has = n.1; first = (are.there x n.0 n.1).0 }

  -- so the last roots reach it
  pub ReachedFrom-last : (x : Id) → IsSome (layers x) → ReachedFrom links (last_roots moments (length moments)) x
  ReachedFrom-last x some = (are.exactly (length moments) (omega arith) x).0 (IsWithin-all x some)

  module _ (count : ℕ) (moment : count ≤ length moments) where
    -- it leads to no name above
    pub IsWithin-onward : {x y : Id} → IsWithin layers count x → Reaches links x y → IsWithin layers count y
    IsWithin-onward {x} {y} h way =
        let r = (are.exactly count moment x).0 h in
        (are.exactly count moment y).1 (record { root = r.root; is_root = r.is_root; reaches = Reaches-trans links r.reaches way })

    -- a way to a name above is above
    reaches_above : {x y : Id} → Reaches links x y → ¬ IsWithin layers count y → Reaches (links_above links layers count) x y
    reaches_above itself out = itself
    reaches_above (onward {y} {z} way link) out =
        onward (reaches_above way (λ h. out (IsWithin-onward h (onward itself link)))) (LinksTo-above links layers count y z link out)

    -- so a walk down to them meets all that is above
    pub IsMetAbove-both : (roots : List Id) (x : Id) → IsMetAbove links layers count roots x ↔ (ReachedFrom links roots x × ¬ IsWithin layers count x)
    IsMetAbove-both roots x = (
      IsMetAbove-reached links layers count roots x,
      λ h. record {
        root = h.0.root;
        is_root = Contains-above layers count roots h.0.root h.0.is_root (λ at. h.1 (IsWithin-onward at h.0.reaches));
        reaches = reaches_above h.0.reaches h.1;
      },
    )

  -- ---- the difference
  module _ (count : ℕ) (others : List Id) (reach : ReachesLayers links moments count others) where
    -- what the first layers have, the others reach
    pub ReachedFrom-within : (x : Id) → IsWithin layers count x → ReachedFrom links others x
    ReachedFrom-within x h = ReachedFrom-trans links others (last_roots moments count) reach.reached x ((are.exactly count reach.moment x).0 h)

    pub IsReachedBeyond-above : (roots : List Id) (x : Id) → IsReachedBeyond links others roots x ↔ (IsMetAbove links layers count roots x × ¬ IsMetAbove links layers count others x)
    IsReachedBeyond-above roots x = (
      λ h. (
        (IsMetAbove-both count reach.moment roots x).1 (h.0, λ at. h.1 (ReachedFrom-within x at)),
        λ met. h.1 ((IsMetAbove-both count reach.moment others x).0 met).0,
      ),
      λ h.
          let r = (IsMetAbove-both count reach.moment roots x).0 h.0 in
          (r.0, λ other. h.1 ((IsMetAbove-both count reach.moment others x).1 (other, r.1))),
    )

  -- ---- moments
  pub moments_grow : (count more : ℕ) → count ≤ more → more ≤ length moments → (x : Id) → ReachedFrom links (last_roots moments count) x → ReachedFrom links (last_roots moments more) x
  moments_grow count more less fits x r =
      (are.exactly more fits x).0 (IsWithin-less layers x count more less ((are.exactly count (omega (arith, less, fits)) x).1 r))

  -- a layer is the first
  pub layer_is_first : (x : Id) (layer : ℕ) → layers x ≡ Some layer ↔ ((layer < length moments) × ReachedFrom links (last_roots moments (layer + 1)) x × ((count : ℕ) → count ≤ layer → ¬ ReachedFrom links (last_roots moments count) x))
  layer_is_first x layer = (
    λ is.
        let fits : layer < length moments = (are.there x layer is).0 in (
          fits,
          (are.exactly (layer + 1) (omega (arith, fits)) x).0 (record { layer = layer; has = is; first = omega arith }),
          λ count less r.
              let h = (are.exactly count (omega (arith, less, fits)) x).1 r in
              let same : h.layer ≡ layer = let e : Some h.layer ≡ Some layer = sym h.has ∙ is in cc e in
              omega (arith, same, h.first, less),
        ),
    λ h.
        let w = (are.exactly (layer + 1) (omega (arith, h.0)) x).1 h.1 in
        let same : w.layer ≡ layer = elim (cases_lt w.layer layer) [
          | inl less ↦ absurd (h.2 layer (omega arith) ((are.exactly layer (omega (arith, h.0)) x).0 (record { layer = w.layer; has = w.has; first = less })))
          | inr least ↦ omega (arith, least, w.first)
        ] in
        w.has ∙ ap Some same,
  )

-- a walk that goes down to no layer meets all
pub IsMetAbove-none : {Id : Type 0} (links : Id → Option (List Id)) (layers : Id → Option ℕ) (roots : List Id) (x : Id) → IsMetAbove links layers 0 roots x ↔ ReachedFrom links roots x
IsMetAbove-none {Id} links layers roots x = (
  λ h. (IsMetAbove-reached links layers 0 roots x h).0,
  λ r. record { root = r.root; is_root = Contains-above layers 0 roots r.root r.is_root (not_within-zero layers r.root); reaches = all r.reaches },
)
  where
    all : {y z : Id} → Reaches links y z → Reaches (links_above links layers 0) y z
    all itself = itself
    all (onward {y} {z} way link) = onward (all way) (LinksTo-above links layers 0 y z link (not_within-zero layers z))

-- ---- moments one after the other
module _ {Id : Type 0} (moments : List (List Id)) (roots : List Id) where
  pub last_roots-before : (count : ℕ) → count ≤ length moments → last_roots (moments ++ roots ∷ []) count ≡ last_roots moments count
  last_roots-before zero fits = refl
  last_roots-before (suc before) fits = get_or-append moments (roots ∷ []) [] before (omega (arith, fits))

  pub last_roots-now : last_roots (moments ++ roots ∷ []) (suc (length moments)) ≡ roots
  last_roots-now = get_or-append_seam moments roots [] []

  pub length_one_more : length (moments ++ roots ∷ []) ≡ suc (length moments)
  length_one_more = omega (arith, length-append moments (roots ∷ []))

-- ---- one layer more
module _ {Id : Type 0} (links : Id → Option (List Id)) (moments : List (List Id)) (old new : Id → Option ℕ) (roots : List Id) (are : AreLayers links moments old)
    (reach : ReachesLayers links moments (length moments) roots) (closed : IsClosedUnder links roots) (adds : AddsLayer links moments roots old new) where
  -- what has a layer now had it, or is reached and has the new one
  added_cases : (x : Id) (layer : ℕ) → new x ≡ Some layer → (old x ≡ Some layer) ⊎ ((layer ≡ length moments) × ReachedFrom links roots x)
  added_cases x layer is = by (old x) refl
    where
      by : (o : Option ℕ) → old x ≡ o → (old x ≡ Some layer) ⊎ ((layer ≡ length moments) × ReachedFrom links roots x)
      by None e = inr ((adds.added x layer e).0 is)
      by (Some before) e = let same : Some before ≡ Some layer = sym (adds.kept x before e) ∙ is in inl (e ∙ same)

  -- the layers before have what they had
  IsWithin-before : (count : ℕ) → count ≤ length moments → (x : Id) → IsWithin new count x → IsWithin old count x
  IsWithin-before count fits x h = ⊎_elim (λ was. record { layer = h.layer; has = was; first = h.first }) (λ now. absurd (omega (arith, now.0, h.first, fits))) (added_cases x h.layer h.has)

  IsWithin-kept : (count : ℕ) (x : Id) → IsWithin old count x → IsWithin new count x
  IsWithin-kept count x h = record { layer = h.layer; has = adds.kept x h.layer h.has; first = h.first }

  -- what all layers have, the new roots reach, and the other way round
  reached_now : (x : Id) (layer : ℕ) → new x ≡ Some layer → ReachedFrom links roots x
  reached_now x layer is = ⊎_elim
      (λ was. ReachedFrom-within links moments old are (length moments) roots reach x (record { layer = layer; has = was; first = (are.there x layer was).0 }))
      (λ now. now.1)
      (added_cases x layer is)

  IsWithin-now : (x : Id) → ReachedFrom links roots x → IsWithin new (suc (length moments)) x
  IsWithin-now x r = by (old x) refl
    where
      by : (o : Option ℕ) → old x ≡ o → IsWithin new (suc (length moments)) x
      by None e = record { layer = length moments; has = (adds.added x (length moments) e).1 (refl, r); first = omega arith }
      by (Some before) e = record { layer = before; has = adds.kept x before e; first = omega (arith, (are.there x before e).0) }

  pub AreLayers-added : AreLayers links (moments ++ roots ∷ []) new
  AreLayers-added = record {
    exactly = λ count fits x. elim (cases_lt (length moments) count) [
      | inl last ↦
          let is : count ≡ suc (length moments) = omega (arith, last, fits, length_one_more moments roots) in
          let same : last_roots (moments ++ roots ∷ []) count ≡ roots = ap (last_roots (moments ++ roots ∷ [])) is ∙ last_roots-now moments roots in (
            λ h. subst (λ l. ReachedFrom links l x) (sym same) (reached_now x h.layer h.has),
            λ r. subst (λ n. IsWithin new n x) (sym is) (IsWithin-now x (subst (λ l. ReachedFrom links l x) same r)),
          )
      | inr before ↦
          let same : last_roots (moments ++ roots ∷ []) count ≡ last_roots moments count = last_roots-before moments roots count before in
          let both = are.exactly count before x in (
            λ h. subst (λ l. ReachedFrom links l x) (sym same) (both.0 (IsWithin-before count before x h)),
            λ r. IsWithin-kept count x (both.1 (subst (λ l. ReachedFrom links l x) same r)),
          )
    ];
    there = λ x layer is. (
      ⊎_elim (λ was. omega (arith, (are.there x layer was).0, length_one_more moments roots)) (λ now. omega (arith, now.0, length_one_more moments roots)) (added_cases x layer is),
      closed x (reached_now x layer is),
    );
  }

-- ---- layers stay
module _ {Id : Type 0} (links later : Id → Option (List Id)) (moments : List (List Id)) (layers : Id → Option ℕ) (are : AreLayers links moments layers)
    (same : (x : Id) → IsSome (layers x) → later x ≡ links x) where
  LinksTo-later : (x y : Id) → IsSome (layers x) → LinksTo links x y → LinksTo later x y
  LinksTo-later x y some l = (l.0, same x some ∙ l.1, l.2)

  LinksTo-was : (x y : Id) → IsSome (layers x) → LinksTo later x y → LinksTo links x y
  LinksTo-was x y some l = (l.0, sym (same x some) ∙ l.1, l.2)

  module _ (count : ℕ) (moment : count ≤ length moments) where
    some_within : (x : Id) → IsWithin layers count x → IsSome (layers x)
    some_within x h = some_of (layers x) h.layer h.has

    later_on : {x y : Id} → IsWithin layers count x → Reaches links x y → Reaches later x y
    later_on at itself = itself
    later_on at (onward {y} {z} way link) = onward (later_on at way) (LinksTo-later y z (some_within y (IsWithin-onward links moments layers are count moment at way)) link)

    was_before : {x y : Id} → IsWithin layers count x → Reaches later x y → Reaches links x y
    was_before at itself = itself
    was_before at (onward {y} {z} way link) =
        let before = was_before at way in
        onward before (LinksTo-was y z (some_within y (IsWithin-onward links moments layers are count moment at before)) link)

    root_within : (x : Id) → Contains (last_roots moments count) x → IsWithin layers count x
    root_within x h = (are.exactly count moment x).1 (record { root = x; is_root = h; reaches = itself })

  pub AreLayers-later : AreLayers later moments layers
  AreLayers-later = record {
    exactly = λ count moment x. (
      λ h. let r = (are.exactly count moment x).0 h in record { root = r.root; is_root = r.is_root; reaches = later_on count moment (root_within count moment r.root r.is_root) r.reaches },
      λ r. (are.exactly count moment x).1 (record { root = r.root; is_root = r.is_root; reaches = was_before count moment (root_within count moment r.root r.is_root) r.reaches }),
    );
    there = λ x layer is.
        let t = are.there x layer is in
        (t.0, subst (λ o. IsSome o) (sym (same x (some_of (layers x) layer is))) t.1);
  }

-- the same where what the last roots reach stays, and where links are added
module _ {Id : Type 0} (links later : Id → Option (List Id)) (moments : List (List Id)) (layers : Id → Option ℕ) (are : AreLayers links moments layers) where
  pub AreLayers-kept : ((x : Id) → ReachedFrom links (last_roots moments (length moments)) x → later x ≡ links x) → AreLayers later moments layers
  AreLayers-kept kept = AreLayers-later links later moments layers are (λ x some. kept x (ReachedFrom-last links moments layers are x some))

  pub AreLayers-grown : ((x : Id) (ys : List Id) → links x ≡ Some ys → later x ≡ Some ys) → AreLayers later moments layers
  AreLayers-grown more = AreLayers-later links later moments layers are (λ x some.
      let layer = value_of (layers x) some in
      let ys = value_of (links x) (are.there x layer.0 layer.1).1 in
      more x ys.0 ys.1 ∙ sym ys.1)
