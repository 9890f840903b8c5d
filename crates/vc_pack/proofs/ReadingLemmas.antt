-- Reading objects of a store one by one, into a set by name.
use Rattle.std.proofs.Common.{◌≡◌, ℕ, Bool, true, false, cond, ⊎_elim, List, ◌∷◌, ◌++◌, map, Option, Some, None, Ok, Err, Contains, ◌↔◌, sym, ap, subst, ◌∙◌, refl, true≢false, arith, []}
use Rattle.std.proofs.lemmas.List.{map-append}
use Rattle.std.proofs.lemmas.List.Elements.{Contains-append_right, Contains-push_cases, Contains-append_cases}
use Rattle.std.specs.FinMap as files
use Rattle.std.specs.Ordering.{is_eq}
use Rattle.std.specs.Result.{result_ok}
use Rattle.std.specs.Str.{bytes_eq}
use Rattle.std.specs.Cmp.{Equal-is}
use Rattle.std.proofs.lemmas.Option.{same_Some, none-some}
use Rattle.vc_pack.proofs.AmongLemmas.{same_name, same_cmp}
use Rattle.vc_files.specs.FileMap.{FileMap}
use Rattle.vc_object.proofs.IdLemmas.{id_eq-same}
use Rattle.vc_object.specs.Decoding.{StoredObject, decoded}
use Rattle.vc_object.specs.Object.{object_name}
use Rattle.vc_object.specs.ObjectId.{id_cmp, is_id, IsSortedByName}
use Rattle.vc_object.specs.declared.id.ObjectId.{ObjectId}
use Rattle.vc_pkt.proofs.CarriedOnce.{carried_named, carried_sorted, none_sorted}
use Rattle.vc_pkt.specs.Carried.{stored_name, object_named, with_object, with_objects}
use Rattle.vc_pkt.proofs.CarriedLaws.{with_objects-push}
use Rattle.vc_object_map.specs.Store.{objects, object_path, stored, stored_in, named}
use Rattle.vc_object_map.specs.declared.faults.StoreFault.TheVariants as of_store

-- ---- a stored object has its own name
own_of_object : (id : ObjectId) (o object : StoredObject) (b : Bool) → bytes_eq (object_name o.kind o.body).0 id.0 ≡ b → result_ok (cond b (Ok o) (Err (of_store.Damaged id))) ≡ Some object → stored_name object ≡ id
own_of_object id o object true same e = ap stored_name (sym (same_Some o object e)) ∙ id_eq-same (stored_name o) id same
own_of_object id o object false same e = absurd (none-some object e)

own_of_read : (id : ObjectId) (found : Option StoredObject) (object : StoredObject) → result_ok (named id found) ≡ Some object → stored_name object ≡ id
own_of_read id None object e = absurd (none-some object e)
own_of_read id (Some o) object e = own_of_object id o object (bytes_eq (object_name o.kind o.body).0 id.0) refl e

own_of_bytes : (id : ObjectId) (bytes : Option (List ℕ)) (object : StoredObject) → result_ok (stored_in id bytes) ≡ Some object → stored_name object ≡ id
own_of_bytes id None object e = absurd (none-some object e)
own_of_bytes id (Some bytes) object e = own_of_read id (decoded bytes) object e

pub own_name : (content : FileMap) (id : ObjectId) (object : StoredObject) → objects content id ≡ Some object → stored_name object ≡ id
unfolding objects
own_name content id object e = by (is_id id) e
  where
    by : (b : Bool) → cond b (result_ok (stored content id)) None ≡ Some object → stored_name object ≡ id
    by true e = own_of_bytes id (files.get content (object_path id.0)) object e
    by false e = absurd (none-some object e)

-- ---- look-ups in a list of objects
abbrev passes : ObjectId → StoredObject → Bool
passes id o = is_eq (id_cmp id (stored_name o))

record IsFound (id : ObjectId) (os : List StoredObject) (o : StoredObject) : Type 0 where
  has : Contains os o
  named : Contains (map stored_name os) (stored_name o)
  is : passes id o ≡ true

found_in : (id : ObjectId) (os : List StoredObject) (o : StoredObject) → object_named id os ≡ Some o → IsFound id os o
found_in id [] o e = absurd (none-some o e)
found_in id (p ∷ ps) o e = by (passes id p) refl e (λ later. found_in id ps o later)
  where
    by : (b : Bool) → passes id p ≡ b → cond b (Some p) (object_named id ps) ≡ Some o → (object_named id ps ≡ Some o → IsFound id ps o) → IsFound id (p ∷ ps) o
    by true is e later =
        let same : p ≡ o = same_Some p o e in
        record { has = (0, omega arith, same); named = (0, omega arith, ap stored_name same); is = subst (λ q. passes id q ≡ true) same is }
    by false is e later =
        let f = later e in
        record { has = Contains-append_right (p ∷ []) ps o f.has; named = Contains-append_right (stored_name p ∷ []) (map stored_name ps) (stored_name o) f.named; is = f.is }

has_named : (id : ObjectId) (os : List StoredObject) → Contains (map stored_name os) id → (o : StoredObject) × (object_named id os ≡ Some o)
has_named id [] h = absurd (omega (arith, h.1))
has_named id (p ∷ ps) h = by (passes id p) refl (λ later. has_named id ps later)
  where
    by : (b : Bool) → passes id p ≡ b → (Contains (map stored_name ps) id → (o : StoredObject) × (object_named id ps ≡ Some o)) → (o : StoredObject) × (cond b (Some p) (object_named id ps) ≡ Some o)
    by true is later = (p, refl)
    by false is later =
        ⊎_elim (λ (first : Contains (stored_name p ∷ []) id).
        let same : stored_name p ≡ id = ⊎_elim (λ none. absurd (omega (arith, none.1))) (λ e. e) (Contains-push_cases [] (stored_name p) id first) in
        absurd (true≢false (sym (ap is_eq (ap (id_cmp id) same ∙ same_cmp id)) ∙ is)))
        later
        (Contains-append_cases (stored_name p ∷ []) (map stored_name ps) id h)

-- the set has the objects of these names that are stored
pub record HasRead (content : FileMap) (ids : List ObjectId) (set : List StoredObject) : Type 0 where
  pub read : List StoredObject
  pub built : set ≡ with_objects [] read
  pub names : map stored_name read ≡ ids
  pub found : (o : StoredObject) → Contains read o → objects content (stored_name o) ≡ Some o

module _ (content : FileMap) where
  pub HasRead-none : (set : List StoredObject) → set ≡ [] → HasRead content [] set
  HasRead-none set none = record { read = []; built = none; names = refl; found = λ o h. absurd (omega (arith, h.1)) }

  pub HasRead-push : (ids : List ObjectId) (set now : List StoredObject) (id : ObjectId) (o : StoredObject) → HasRead content ids set → objects content id ≡ Some o → now ≡ with_object o set → HasRead content (ids ++ id ∷ []) now
  HasRead-push ids set now id o so_far there added =
      let own : stored_name o ≡ id = own_name content id o there in
      record {
        read = so_far.read ++ o ∷ [];
        built = added ∙ ap (with_object o) so_far.built ∙ sym (with_objects-push [] so_far.read o);
        names = map-append stored_name so_far.read (o ∷ []) ∙ ap (λ l. l ++ stored_name o ∷ []) so_far.names ∙ ap (λ x. ids ++ x ∷ []) own;
        found = λ p h. ⊎_elim (so_far.found p)
            (λ same. subst (λ q. objects content (stored_name q) ≡ Some q) same (ap (objects content) own ∙ there))
            (Contains-push_cases so_far.read o p h);
      }

  module _ (ids : List ObjectId) (set : List StoredObject) (all : HasRead content ids set) where
    pub HasRead-sorted : IsSortedByName (map stored_name set)
    HasRead-sorted = subst (λ os. IsSortedByName (map stored_name os)) (sym all.built) (carried_sorted all.read [] none_sorted)

    named_is : (id : ObjectId) → object_named id set ≡ object_named id all.read
    named_is id = ap (object_named id) all.built ∙ carried_named id all.read

    from_set : (id : ObjectId) (o : StoredObject) → object_named id set ≡ Some o → Contains ids id × (objects content id ≡ Some o)
    from_set id o e =
        let f = found_in id all.read o (sym (named_is id) ∙ e) in
        let own : id ≡ stored_name o = same_name id (stored_name o) ((Equal-is (id_cmp id (stored_name o))).0 f.is) in
        (subst (λ x. Contains ids x) (sym own) (subst (λ l. Contains l (stored_name o)) all.names f.named), ap (objects content) own ∙ all.found o f.has)

    -- it has no others
    pub HasRead-exact : (id : ObjectId) (o : StoredObject) → object_named id set ≡ Some o ↔ (Contains ids id × (objects content id ≡ Some o))
    HasRead-exact id o = (
      from_set id o,
      λ h.
          let one = has_named id all.read (subst (λ l. Contains l id) (sym all.names) h.0) in
          let at : object_named id set ≡ Some one.0 = named_is id ∙ one.1 in
          at ∙ sym (from_set id one.0 at).1 ∙ h.1,
    )
