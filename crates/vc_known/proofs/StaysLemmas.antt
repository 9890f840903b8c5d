-- What is known of objects stays so where others are added, and where others vanish.
use Rattle.std.proofs.Common.{◌≡◌, ◌↔◌, ◌⊎◌, inl, inr, ⊎_elim, ℕ, zero, suc, List, [], ◌∷◌, Option, Some, None, IsSome, sym, ap, subst, ◌∙◌, refl, arith}
use Rattle.std.specs.Option.{option_map, option_and_then}
use Rattle.vc_lemmas.proofs.Lists.{some_of}
use Rattle.vc_history.proofs.LinkLemmas.{Reaches-ancestor}
use Rattle.vc_history.proofs.StoredLemmas.{Agrees-more}
use Rattle.vc_history.specs.Generation.{Agrees as AgreeNumbers, HasGeneration, Leads}
use Rattle.vc_object.specs.Decoding.{StoredObject}
use Rattle.vc_object.specs.Links.{links_of, parents_of}
use Rattle.vc_object.specs.ObjectMap.{ObjectMap, links_in, parents_in}
use Rattle.vc_object.specs.declared.id.ObjectId.{ObjectId}
use Rattle.vc_object.specs.declared.kind.Kind.{Kind}
use Rattle.vc_object.proofs.ObjectMaps.{links_in-none, links_in-some}
use Rattle.vc_object_map.specs.Graph.{LinksTo, Reaches, ReachedFrom, itself, onward}
use Rattle.vc_known.proofs.KnownLemmas.{place-from_kind}
use Rattle.vc_known.proofs.LayerLemmas.{AreLayers-grown, AreLayers-kept, IsWithin-all, IsWithin-onward, ReachedFrom-last, ReachedFrom-within, not_within, within_cases}
use Rattle.vc_known.specs.Known.{Agrees, ReachesLast, count_in, generation_in, kind_in, layer_in, moments_in, place_in}
use Rattle.vc_known.specs.Layers.{IsWithin, last_roots}
use Rattle.vc_known.specs.declared.known.Known.{Known}
use Rattle.vc_known.specs.declared.known.Place.{Place}

-- ---- links and parents of objects
pub links_stay : (objects more : ObjectMap) → ((id : ObjectId) (o : StoredObject) → objects id ≡ Some o → more id ≡ Some o) → (id : ObjectId) (ys : List ObjectId) → links_in objects id ≡ Some ys → links_in more id ≡ Some ys
links_stay objects more stays id ys is = by (objects id) refl
  where
    by : (o : Option StoredObject) → objects id ≡ o → links_in more id ≡ Some ys
    by None e = let no : None ≡ Some ys = sym (links_in-none objects id e) ∙ is in absurd (cc)
    by (Some o) e = links_in-some more id o (stays id o e) ∙ sym (links_in-some objects id o e) ∙ is

pub links_same : (objects others : ObjectMap) (id : ObjectId) → others id ≡ objects id → links_in others id ≡ links_in objects id
unfolding links_in
links_same objects others id same = ap (option_map (λ (o : StoredObject). links_of o.kind o.body)) same

pub parents_same : (objects others : ObjectMap) (id : ObjectId) → others id ≡ objects id → parents_in others id ≡ parents_in objects id
unfolding parents_in
parents_same objects others id same = ap (option_and_then (λ (o : StoredObject). parents_of o.kind o.body)) same

-- ---- numbers stay where the commits that have one stay
module _ {Id : Type 0} (parents later : Id → Option (List Id)) (numbers : Id → Option ℕ) (agrees : AgreeNumbers parents numbers)
    (same : (x : Id) → IsSome (numbers x) → later x ≡ parents x) where
  link_was : (x y : Id) → IsSome (numbers x) → LinksTo later x y → LinksTo parents x y
  link_was x y some l = (l.0, sym (same x some) ∙ l.1, l.2)

  way_was : {x z : Id} → IsSome (numbers x) → Reaches later x z → Reaches parents x z × IsSome (numbers z)
  way_was some itself = (itself, some)
  way_was some (onward {y} {z} way link) =
      let before = way_was some way in
      let link_before = link_was y z before.1 link in
      (onward before.0 link_before, agrees.onward y z before.1 link_before)

  leads_was : (k : ℕ) (x y : Id) → IsSome (numbers x) → Leads later k x y → Leads parents k x y
  leads_was zero x y some h = h
  leads_was (suc k) x y some h =
      let link = link_was x h.0 some h.1 in
      (h.0, link, leads_was k h.0 y (agrees.onward x h.0 some link) h.2)

  leads_stay : (k : ℕ) (x y : Id) → IsSome (numbers x) → Leads parents k x y → Leads later k x y
  leads_stay zero x y some h = h
  leads_stay (suc k) x y some h = (h.0, (h.1.0, same x some ∙ h.1.1, h.1.2), leads_stay k h.0 y (agrees.onward x h.0 some h.1) h.2)

  generation_stays : (x : Id) (n : ℕ) → IsSome (numbers x) → HasGeneration parents x n → HasGeneration later x n
  generation_stays x n some g = record {
    whole = λ z way. let before = way_was some way in subst (λ o. IsSome o) (sym (same z before.1)) (g.whole z before.0);
    length_of_longest = g.length_of_longest;
    last = g.last;
    longest = leads_stay g.length_of_longest x g.last some g.longest;
    one_more = g.one_more;
    none_longer = λ k y h. g.none_longer k y (leads_was k x y some h);
  }

  pub AgreeNumbers-kept : AgreeNumbers later numbers
  AgreeNumbers-kept = record {
    generation = λ x n is. generation_stays x n (some_of (numbers x) n is) (agrees.generation x n is);
    onward = λ x y some link. agrees.onward x y some (link_was x y some link);
  }

-- ---- what is known
module _ (objects : ObjectMap) (known : Known) (agrees : Agrees objects known) where
  -- is what the last roots reach
  pub known-both : (id : ObjectId) → IsSome (layer_in known id) ↔ ReachedFrom (links_in objects) (last_roots (moments_in known) (count_in known)) id
  known-both id = (
    ReachedFrom-last (links_in objects) (moments_in known) (layer_in known) agrees.layers id,
    λ r. let h = (agrees.layers.exactly (count_in known) (omega arith) id).1 r in some_of (layer_in known id) h.layer h.has,
  )

  -- what roots reach is known or above, where they reach the last roots
  pub reached-both : (roots : List ObjectId) → ReachesLast objects known roots
      → (id : ObjectId) → ReachedFrom (links_in objects) roots id ↔ (IsSome (layer_in known id) ⊎ (ReachedFrom (links_in objects) roots id × ¬ IsWithin (layer_in known) (count_in known) id))
  reached-both roots reach id = (
    λ r. ⊎_elim (λ h. inl (some_of (layer_in known id) h.layer h.has)) (λ out. inr (r, not_within (layer_in known) id (count_in known) out)) (within_cases (layer_in known) id (count_in known)),
    ⊎_elim
        (λ some. ReachedFrom-within (links_in objects) (moments_in known) (layer_in known) agrees.layers (count_in known) roots reach id
        (IsWithin-all (links_in objects) (moments_in known) (layer_in known) agrees.layers id some))
        (λ h. h.0),
  )

  -- each ancestor of what is known is known
  pub known-ancestor : (root : ObjectId) → IsSome (layer_in known root) → (id : ObjectId) → Reaches (parents_in objects) root id → IsSome (layer_in known id)
  known-ancestor root some id way =
      let h = IsWithin-onward (links_in objects) (moments_in known) (layer_in known) agrees.layers (count_in known) (omega arith)
      (IsWithin-all (links_in objects) (moments_in known) (layer_in known) agrees.layers root some) (Reaches-ancestor objects way) in
      some_of (layer_in known id) h.layer h.has

  layer-from_kind : (id : ObjectId) (kind : Kind) → kind_in known id ≡ Some kind → IsSome (layer_in known id)
  layer-from_kind id kind is =
      let p = place-from_kind (place_in known id) kind is in
      some_of (layer_in known id) p.0.layer (ap (option_map (λ (place : Place). place.layer)) p.1)

  -- it stays so where objects are added
  pub Agrees-grown : (more : ObjectMap) → ((id : ObjectId) (o : StoredObject) → objects id ≡ Some o → more id ≡ Some o) → Agrees more known
  Agrees-grown more stays = record {
    layers = AreLayers-grown (links_in objects) (links_in more) (moments_in known) (layer_in known) agrees.layers (links_stay objects more stays);
    kinds = λ id kind is. let h = agrees.kinds id kind is in record { object = h.object; there = stays id h.object h.there; kind_is = h.kind_is };
    generations = Agrees-more objects more (generation_in known) stays agrees.generations;
    numbered = agrees.numbered;
  }

  -- and where all stays that the last roots reach
  pub Agrees-kept : (fewer : ObjectMap) → ((id : ObjectId) → ReachedFrom (links_in objects) (last_roots (moments_in known) (count_in known)) id → fewer id ≡ objects id) → Agrees fewer known
  Agrees-kept fewer kept =
      let same : (id : ObjectId) → IsSome (layer_in known id) → fewer id ≡ objects id = λ id some. kept id ((known-both id).0 some) in
      record {
        layers = AreLayers-kept (links_in objects) (links_in fewer) (moments_in known) (layer_in known) agrees.layers (λ id r. links_same objects fewer id (kept id r));
        kinds = λ id kind is. let h = agrees.kinds id kind is in record { object = h.object; there = same id (layer-from_kind id kind is) ∙ h.there; kind_is = h.kind_is };
        generations = AgreeNumbers-kept (parents_in objects) (parents_in fewer) (generation_in known) agrees.generations (λ id some. parents_same objects fewer id (same id (agrees.numbered id some)));
        numbered = agrees.numbered;
      }
