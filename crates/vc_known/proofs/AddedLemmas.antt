-- What is known after a layer was added.
use Rattle.std.proofs.Common.{◌≡◌, ◌↔◌, ℕ, ◌≤◌, ◌⊎◌, inl, inr, ⊎_elim, List, [], ◌∷◌, ◌++◌, Option, Some, None, IsSome, Contains, sym, ap, subst, ◌∙◌, arith}
use Rattle.std.specs.Option.{option_map}
use Rattle.vc_lemmas.proofs.Lists.{value_of, some_of}
use Rattle.vc_history.proofs.StoredLemmas.{Agrees-same}
use Rattle.vc_object.specs.ObjectMap.{ObjectMap, links_in, parents_in}
use Rattle.vc_object.specs.declared.id.ObjectId.{ObjectId}
use Rattle.vc_object.specs.declared.kind.Kind.{Kind}
use Rattle.std.proofs.lemmas.List.Elements.{Contains-append_left, Contains-append_right, Contains-append_cases}
use Rattle.vc_object_map.proofs.WalkLemmas.{ReachedFrom-append_right, ReachedFrom-trans}
use Rattle.vc_object_map.specs.Graph.{IsClosedUnder, ReachedFrom, itself}
use Rattle.vc_known.proofs.KindLemmas.{links-from_IsOfKind}
use Rattle.vc_known.proofs.KnownLemmas.{kind-from_place, no_place, place-from_kind, place-from_layer}
use Rattle.vc_known.proofs.LayerLemmas.{AreLayers-added, Contains-from_above, IsMetAbove-both, IsMetAbove-reached, Reaches-from_above, not_within, not_within-none, within_cases}
use Rattle.vc_known.specs.Known.{Agrees, IsOfKind, ReachesLast, count_in, generation_in, kind_in, layer_in, moments_in, place_in}
use Rattle.vc_known.specs.Layers.{AddsLayer, AreLayers, IsMetAbove, IsWithin, above, links_above}
use Rattle.vc_known.specs.Walked.{Places, place_at}
use Rattle.vc_known.specs.declared.known.Known.{Known}
use Rattle.vc_known.specs.declared.known.Place.{Place}

module _ (objects : ObjectMap) (known : Known) (agrees : Agrees objects known) (count : ℕ) (moment : count ≤ count_in known) (roots met : List ObjectId)
    (exactly : (x : ObjectId) → Contains met x ↔ IsMetAbove (links_in objects) (layer_in known) count roots x) where
  -- a walk down to layers has met what the roots reach and these have not
  pub met-both : (x : ObjectId) → Contains met x ↔ (ReachedFrom (links_in objects) roots x × ¬ IsWithin (layer_in known) count x)
  met-both x =
      let both = IsMetAbove-both (links_in objects) (moments_in known) (layer_in known) agrees.layers count moment roots x in
      (λ h. both.0 ((exactly x).0 h), λ h. (exactly x).1 (both.1 h))

-- where nothing is absent that a walk down to layers meets, all is there that the roots reach
pub closed_above : (objects : ObjectMap) (known : Known) → Agrees objects known → (count : ℕ) → count ≤ count_in known → (roots : List ObjectId)
    → ((x : ObjectId) → IsMetAbove (links_in objects) (layer_in known) count roots x → IsSome (links_in objects x)) → IsClosedUnder (links_in objects) roots
closed_above objects known agrees count moment roots there x r = ⊎_elim
    (λ h. (agrees.layers.there x h.layer h.has).1)
    (λ out. there x ((IsMetAbove-both (links_in objects) (moments_in known) (layer_in known) agrees.layers count moment roots x).1 (r, not_within (layer_in known) x count out)))
    (within_cases (layer_in known) x count)

module _ (objects : ObjectMap) (old new : Known) (agrees : Agrees objects old) (roots met : List ObjectId) (kinds : ObjectId → Option Kind)
    (exactly : (x : ObjectId) → Contains met x ↔ IsMetAbove (links_in objects) (layer_in old) (count_in old) roots x)
    (right : (x : ObjectId) (kind : Kind) → kinds x ≡ Some kind → IsOfKind objects x kind)
    (read : (x : ObjectId) → Contains met x → IsSome (kinds x)) where
  there : (x : ObjectId) → Contains met x → IsSome (links_in objects x)
  there x at = let kind = value_of (kinds x) (read x at) in links-from_IsOfKind objects x kind.0 (right x kind.0 kind.1)

  pub closed_added : IsClosedUnder (links_in objects) roots
  closed_added = closed_above objects old agrees (count_in old) (omega arith) roots (λ x h. there x ((exactly x).1 h))

  module _ (places : Places (count_in old) met kinds (place_in old) (place_in new)) where
    -- what has a place now had it, or was met
    place_cases : (x : ObjectId) (place : Place) → place_in new x ≡ Some place → (place_in old x ≡ Some place) ⊎ (Contains met x × (kind : Kind) × (kinds x ≡ Some kind) × (place_at (count_in old) kind ≡ place))
    place_cases x place is = ⊎_elim inl (λ h. let k = kind-from_place (count_in old) (kinds x) place h.1 in inr (h.0, k.0, k.1, k.2)) (places.only x place is)

    adds : AddsLayer (links_in objects) (moments_in old) roots (layer_in old) (layer_in new)
    adds = record {
      kept = λ x layer is.
          let p = place-from_layer (place_in old x) layer is in
          ap (option_map (λ (place : Place). place.layer)) (places.kept x p.0 p.1) ∙ ap Some p.2;
      added = λ x layer none. (
        λ is.
            let p = place-from_layer (place_in new x) layer is in
            let absent : place_in old x ≡ None = no_place (place_in old x) none in
            ⊎_elim
            (λ was. let no : None ≡ Some p.0 = sym absent ∙ was in absurd (cc))
            (λ h. (sym p.2 ∙ ap (λ (place : Place). place.layer) (sym h.3), ((met-both objects old agrees (count_in old) (omega arith) roots met exactly x).0 h.0).0))
            (place_cases x p.0 p.1),
        λ h.
            let absent : place_in old x ≡ None = no_place (place_in old x) none in
            let at : Contains met x = (met-both objects old agrees (count_in old) (omega arith) roots met exactly x).1 (h.1, not_within-none (layer_in old) x (count_in old) none) in
            let p = value_of (place_in new x) (places.placed x at (read x at)) in
            ⊎_elim
            (λ was. let no : None ≡ Some p.0 = sym absent ∙ was in absurd (cc))
            (λ c. ap (option_map (λ (place : Place). place.layer)) p.1 ∙ ap Some (ap (λ (place : Place). place.layer) (sym c.3) ∙ sym h.0))
            (place_cases x p.0 p.1),
      );
    }

    kinds_now : (x : ObjectId) (kind : Kind) → kind_in new x ≡ Some kind → IsOfKind objects x kind
    kinds_now x kind is =
        let p = place-from_kind (place_in new x) kind is in
        ⊎_elim
        (λ was. agrees.kinds x kind (ap (option_map (λ (place : Place). place.kind)) was ∙ ap Some p.2))
        (λ h. subst (λ k. IsOfKind objects x k) (ap (λ (place : Place). place.kind) h.3 ∙ p.2) (right x h.1 h.2))
        (place_cases x p.0 p.1)

    pub Agrees-added : moments_in new ≡ moments_in old ++ roots ∷ [] → ((x : ObjectId) → generation_in new x ≡ generation_in old x) → ReachesLast objects old roots → Agrees objects new
    Agrees-added moments same reach = record {
      layers = subst (λ lists. AreLayers (links_in objects) lists (layer_in new)) (sym moments)
          (AreLayers-added (links_in objects) (moments_in old) (layer_in old) (layer_in new) roots agrees.layers reach closed_added adds);
      kinds = kinds_now;
      generations = Agrees-same (parents_in objects) (generation_in old) (generation_in new) same agrees.generations;
      numbered = λ x some.
          let layer = value_of (layer_in old x) (agrees.numbered x (subst (λ o. IsSome o) (same x) some)) in
          some_of (layer_in new x) layer.0 (adds.kept x layer.0 layer.1);
    }

-- ---- walks, one after the other
module _ (objects : ObjectMap) (layers : ObjectId → Option ℕ) (count : ℕ) where
  -- what a walk down to layers goes on from is reached from its roots and from what was met before
  pub ReachedFrom-down : (before roots : List ObjectId) (y : ObjectId) → ReachedFrom (links_above (links_in objects) layers count) (before ++ above layers count roots) y → ReachedFrom (links_in objects) (before ++ roots) y
  ReachedFrom-down before roots y h = record {
    root = h.root;
    is_root = ⊎_elim (Contains-append_left before roots h.root) (λ new. Contains-append_right before roots h.root (Contains-from_above layers count roots h.root new).0)
        (Contains-append_cases before (above layers count roots) h.root h.is_root);
    reaches = Reaches-from_above (links_in objects) layers count h.reaches;
  }

  -- what the second walk goes on from is reached from the roots of both
  pub ReachedFrom-second : (include exclude first : List ObjectId) → ((x : ObjectId) → Contains first x → IsMetAbove (links_in objects) layers count exclude x)
      → (y : ObjectId) → ReachedFrom (links_in objects) (first ++ include) y → ReachedFrom (links_in objects) (include ++ exclude) y
  ReachedFrom-second include exclude first met = ReachedFrom-trans (links_in objects) (include ++ exclude) (first ++ include) (λ x at. ⊎_elim
      (λ old. ReachedFrom-append_right (links_in objects) include exclude x (IsMetAbove-reached (links_in objects) layers count exclude x (met x old)).0)
      (λ new. record { root = x; is_root = Contains-append_left include exclude x new; reaches = itself })
      (Contains-append_cases first include x at))
