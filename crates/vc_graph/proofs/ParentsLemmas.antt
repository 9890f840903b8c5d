-- The parents of a name among stored and carried objects.
use Rattle.std.proofs.Common.{◌≡◌, Option, Some, None, IsSome, refl, ap, sym, ◌∙◌, subst}
use Rattle.std.specs.Option.{option_or, option_and_then}
use Rattle.vc_object.specs.Decoding.{StoredObject}
use Rattle.vc_object.specs.Links.{parents_of}
use Rattle.vc_object.specs.ObjectMap.{ObjectMap, parents_in}
use Rattle.vc_object.specs.declared.id.ObjectId.{ObjectId}
use Rattle.vc_object_map.specs.Overlay.{with_carried}
use Rattle.vc_object_map.specs.Parents.{AreParents}
use Rattle.vc_object_map.specs.declared.source.Parents.{Parents}
use Rattle.vc_object_map.specs.declared.source.Parents.TheVariants.{Of, NotCommit}

module _ (stored carried : ObjectMap) (id : ObjectId) where
  -- what both say of the name is what one of them says
  parents_at : (objects others : ObjectMap) → objects id ≡ others id → parents_in objects id ≡ parents_in others id
  unfolding parents_in
  parents_at objects others e = ap (option_and_then (λ (o : StoredObject). parents_of o.kind o.body)) e

  at : (objects others : ObjectMap) → objects id ≡ others id → (found : Option Parents) → AreParents objects id found → AreParents others id found
  at objects others e None h = sym e ∙ h
  at objects others e (Some NotCommit) h = (subst IsSome e h.0, sym (parents_at objects others e) ∙ h.1)
  at objects others e (Some (Of parents)) h = sym (parents_at objects others e) ∙ h

  some_of : (found : Parents) → AreParents stored id (Some found) → IsSome (stored id)
  unfolding parents_in
  some_of NotCommit h = h.0
  some_of (Of parents) h = by (stored id) h
    where
      by : (o : Option StoredObject) → option_and_then (λ (o : StoredObject). parents_of o.kind o.body) o ≡ Some parents.items → IsSome o
      by None e = absurd (cc e)
      by (Some o) e = refl

  same_stored : IsSome (stored id) → stored id ≡ with_carried stored carried id
  unfolding with_carried
  same_stored h = by (stored id) h
    where
      by : (o : Option StoredObject) → IsSome o → o ≡ option_or o (carried id)
      by None h = absurd (cc h)
      by (Some o) h = refl

  same_carried : stored id ≡ None → carried id ≡ with_carried stored carried id
  unfolding with_carried
  same_carried e = sym (ap (λ o. option_or o (carried id)) e)

  pub stored_parents : (found : Parents) → AreParents stored id (Some found) → AreParents (with_carried stored carried) id (Some found)
  stored_parents found h = at stored (with_carried stored carried) (same_stored (some_of found h)) (Some found) h

  pub carried_parents : (found : Option Parents) → stored id ≡ None → AreParents carried id found → AreParents (with_carried stored carried) id found
  carried_parents found e h = at carried (with_carried stored carried) (same_carried e) found h
