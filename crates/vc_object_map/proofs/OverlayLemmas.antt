-- What an object of an overlay links to, and what is whole in a graph that grows.
use Rattle.std.proofs.Common.{◌≡◌, ◌∙◌, List, Option, Some, None, IsSome, Contains, refl, sym, ap, subst}
use Rattle.std.specs.Option.{option_map, option_or}
use Rattle.vc_object.specs.Decoding.{StoredObject}
use Rattle.vc_object.specs.Links.{links_of}
use Rattle.vc_object.specs.ObjectMap.{ObjectMap, links_in}
use Rattle.vc_object.specs.declared.id.ObjectId.{ObjectId}
use Rattle.vc_object_map.specs.Graph.{IsClosed, IsClosedUnder, Reaches, itself, onward}
use Rattle.vc_object_map.specs.Overlay.{with_carried}

module _ (stored carried : ObjectMap) (id : ObjectId) where
  -- the links are those of the stored object, else those of the carried one
  pub links_in-with_carried : links_in (with_carried stored carried) id ≡ option_or (links_in stored id) (links_in carried id)
  unfolding links_in with_carried
  links_in-with_carried = by (stored id) (carried id)
    where
      by : (o c : Option StoredObject)
          → option_map (λ (o : StoredObject). links_of o.kind o.body) (option_or o c) ≡ option_or (option_map (λ (o : StoredObject). links_of o.kind o.body) o) (option_map (λ (o : StoredObject). links_of o.kind o.body) c)
      by None c = refl
      by (Some o) c = refl

-- ---- a graph in which each name that is there keeps its links
module _ {Id : Type 0} (f g : Id → Option (List Id)) (more : (x : Id) (ys : List Id) → f x ≡ Some ys → g x ≡ Some ys) where
  there : (x : Id) (o : Option (List Id)) → f x ≡ o → IsSome o → IsSome (g x)
  there x None e h = absurd (cc h)
  there x (Some ys) e h = subst (λ o. IsSome o) (sym (more x ys e)) refl

  -- what a whole name reaches in it was reached before
  reached_before : {x y : Id} → IsClosed f x → Reaches g x y → Reaches f x y
  reached_before closed itself = itself
  reached_before {x} closed (onward {y} {z} r l) =
      let before = reached_before closed r in
      by (f y) refl (closed y before) before
    where
      by : (o : Option (List Id)) → f y ≡ o → IsSome o → Reaches f x y → Reaches f x z
      by None e h before = absurd (cc h)
      by (Some ys) e h before =
          let kept : g y ≡ Some ys = more y ys e in
          let same : l.0 ≡ ys = cc in
          onward before (ys, e, subst (λ zs. Contains zs z) same l.2)

  pub IsClosedUnder-more : (roots : List Id) → IsClosedUnder f roots → IsClosedUnder g roots
  IsClosedUnder-more roots closed y h =
      let of_root : IsClosed f h.root = λ z r. closed z (record { root = h.root; is_root = h.is_root; reaches = r }) in
      there y (f y) refl (of_root y (reached_before of_root h.reaches))

-- what is whole as stored is so with what is carried
pub IsClosedUnder-with_carried : (stored carried : ObjectMap) (roots : List ObjectId) → IsClosedUnder (links_in stored) roots → IsClosedUnder (links_in (with_carried stored carried)) roots
IsClosedUnder-with_carried stored carried =
    IsClosedUnder-more (links_in stored) (links_in (with_carried stored carried)) (λ x ys e. links_in-with_carried stored carried x ∙ ap (λ o. option_or o (links_in carried x)) e)
