-- Looking an object of a pack up.
use Rattle.std.proofs.Common.{◌≡◌, Bool, true, false, cond, List, ◌∷◌, Some, None, sym, ap, ◌∙◌, refl, true≢false, []}
use Rattle.std.specs.Map.{lookup}
use Rattle.std.specs.BTreeMap.{is_at}
use Rattle.std.specs.Option.{option_map, option_and_then}
use Rattle.std.specs.Ordering.{is_eq}
use Rattle.vc_fetch.specs.PackObjects.{objects_in}
use Rattle.vc_fetch.specs.Pack.{is_object}
use Rattle.vc_lemmas.proofs.Lists.{same_head, same_tail}
use Rattle.vc_object.specs.ObjectId.{id_cmp}
use Rattle.vc_object.specs.declared.id.ObjectId.{ObjectId}
use Rattle.vc_pkt.specs.Carried.{stored_name, object_named}
use Rattle.vc_pkt.specs.StreamObjectView.{stored, objects_of, AreNamed}
use Rattle.vc_pkt.specs.declared.carried.StreamObject.{StreamObject}

-- what the map has under a name is the object of that name
pub named_lookup : (id : ObjectId) (es : List (ObjectId × StreamObject)) → AreNamed es → object_named id (objects_of es) ≡ option_map stored (lookup (is_at (id_cmp id)) es)
named_lookup id [] named = refl
named_lookup id ((k, v) ∷ es) named =
    step (is_eq (id_cmp id (stored_name (stored v)))) (is_eq (id_cmp id k)) (ap (λ t. is_eq (id_cmp id t)) (sym (same_head _ _ _ _ named))) (named_lookup id es (same_tail _ _ _ _ named))
  where
    step : (b c : Bool) → b ≡ c → object_named id (objects_of es) ≡ option_map stored (lookup (is_at (id_cmp id)) es) → cond b (Some (stored v)) (object_named id (objects_of es)) ≡ option_map stored (cond c (Some v) (lookup (is_at (id_cmp id)) es))
    step true true e later = refl
    step true false e later = absurd (true≢false e)
    step false true e later = absurd (true≢false (sym e))
    step false false e later = later

module _ (id : ObjectId) (es : List (ObjectId × StreamObject)) (named : AreNamed es) where
  pub found_none : lookup (is_at (id_cmp id)) es ≡ None → objects_in (objects_of es) id ≡ None
  unfolding objects_in
  found_none e = ap (option_and_then (λ o. cond (is_object o) (Some o) None)) (named_lookup id es named ∙ ap (option_map stored) e)

  module _ (object : StreamObject) (found : lookup (is_at (id_cmp id)) es ≡ Some object) where
    here : object_named id (objects_of es) ≡ Some (stored object)
    here = named_lookup id es named ∙ ap (option_map stored) found

    pub found_object : is_object (stored object) ≡ true → objects_in (objects_of es) id ≡ Some (stored object)
    unfolding objects_in
    found_object e = ap (option_and_then (λ o. cond (is_object o) (Some o) None)) here ∙ ap (λ b. cond b (Some (stored object)) None) e

    pub found_other : is_object (stored object) ≡ false → objects_in (objects_of es) id ≡ None
    unfolding objects_in
    found_other e = ap (option_and_then (λ o. cond (is_object o) (Some o) None)) here ∙ ap (λ b. cond b (Some (stored object)) None) e
