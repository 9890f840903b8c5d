-- What is stored as the objects of a quarantine are, one after another.
use Rattle.std.proofs.Common.{◌≡◌, ◌⊎◌, inl, inr, ℕ, Bool, true, false, cond, ◌||◌, List, ◌∷◌, ◌++◌, Option, Some, None, IsSome, Ok, Err, sym, ap, refl, ◌∙◌, subst, true≢false, []}
use Rattle.std.specs.Prelude.{bytes_eq, codes, unwrap_or}
use Rattle.std.specs.FinMap as files
use Rattle.std.specs.List.{list_any}
use Rattle.std.specs.Option.{option_or}
use Rattle.std.specs.Result.{result_ok}
use Rattle.std.proofs.lemmas.List.Folds.{list_any-append}
use Rattle.std.proofs.lemmas.Map.Views.{list_any-from_Contains}
use Rattle.vc_files.specs.FileMap.{FileMap, SameOutside}
use Rattle.vc_object_map.specs.Overlay.{with_carried}
use Rattle.vc_object.proofs.IdLemmas.{id_eq-same, id_eq_equiv}
use Rattle.vc_object.specs.Decoding.{StoredObject, decoded}
use Rattle.vc_object.specs.Object.{object_name}
use Rattle.vc_object.specs.ObjectId.{id_eq, is_id}
use Rattle.vc_object.specs.declared.id.ObjectId.{ObjectId}
use Rattle.vc_object_map.specs.Store.{named, objects, stored_in, with_object}
use Rattle.vc_object_map.specs.declared.faults.StoreFault.TheVariants.{Damaged}
use Rattle.vc_push_rules.proofs.QuarantineLemmas.{quarantined-same}
use Rattle.vc_push_rules.specs.Carrying.{HoldsNames}
use Rattle.vc_quarantine.specs.Migrating.{IsFrontMigrated, migrated}
use Rattle.vc_push_rules.specs.Quarantine.{objects_seen, quarantine_path, quarantined}

-- ---- what a quarantine holds under a name has the name

of_test : (id : ObjectId) (b : Bool) (o p : StoredObject) → bytes_eq (object_name o.kind o.body).0 id.0 ≡ b → result_ok (cond b (Ok o) (Err (Damaged id))) ≡ Some p → object_name p.kind p.body ≡ id
of_test id true o p is h =
    let same : o ≡ p = cc in
    subst (λ (x : StoredObject). object_name x.kind x.body ≡ id) same (id_eq-same (object_name o.kind o.body) id is)
of_test id false o p is h = absurd (cc h)

of_object : (id : ObjectId) (o : Option StoredObject) (p : StoredObject) → result_ok (named id o) ≡ Some p → object_name p.kind p.body ≡ id
of_object id None p h = absurd (cc h)
of_object id (Some o) p h = of_test id (bytes_eq (object_name o.kind o.body).0 id.0) o p refl h

of_file : (id : ObjectId) (found : Option (List ℕ)) (p : StoredObject) → result_ok (stored_in id found) ≡ Some p → object_name p.kind p.body ≡ id
of_file id None p h = absurd (cc h)
of_file id (Some bytes) p h = of_object id (decoded bytes) p h

pub quarantined-named : (content : FileMap) (slot : ℕ) (id : ObjectId) (p : StoredObject) → quarantined content slot id ≡ Some p → object_name p.kind p.body ≡ id
unfolding quarantined
quarantined-named content slot id p h = by (is_id id) h
  where
    by : (b : Bool) → cond b (result_ok (stored_in id (files.get content (quarantine_path slot id.0)))) None ≡ Some p → object_name p.kind p.body ≡ id
    by true h = of_file id (files.get content (quarantine_path slot id.0)) p h
    by false h = absurd (cc h)

-- and no other text than a name has one
pub quarantined-valid : (content : FileMap) (slot : ℕ) (id : ObjectId) (p : StoredObject) → quarantined content slot id ≡ Some p → is_id id ≡ true
unfolding quarantined
quarantined-valid content slot id p h = by (is_id id) h
  where
    by : (b : Bool) → cond b (result_ok (stored_in id (files.get content (quarantine_path slot id.0)))) None ≡ Some p → b ≡ true
    by true h = refl
    by false h = absurd (cc h)

-- ---- one object
put_one : (b : Bool) (stored carried : Option StoredObject) (object : StoredObject) → (b ≡ true → carried ≡ Some object) → cond b (Some (unwrap_or stored object)) stored ≡ cond (b || false) (option_or stored carried) stored
put_one true None carried object is = sym (is refl)
put_one true (Some x) carried object is = refl
put_one false stored carried object is = refl

module _ (content : FileMap) (slot : ℕ) (id : ObjectId) (object : StoredObject) (found : quarantined content slot id ≡ Some object) where
  -- a put of what the quarantine has under a name
  pub migrated_one : (q : ObjectId) → with_object (objects content) id object q ≡ migrated content slot (id ∷ []) q
  unfolding with_object migrated with_carried
  migrated_one q = by (id_eq q id) refl
    where
      by : (b : Bool) → id_eq q id ≡ b → cond b (Some (unwrap_or (objects content id) object)) (objects content q) ≡ cond (b || false) (option_or (objects content q) (quarantined content slot q)) (objects content q)
      by true is =
          let same : q ≡ id = id_eq-same q id is in
          ap (λ (x : ObjectId). Some (unwrap_or (objects content x) object)) (sym same) ∙ put_one true (objects content q) (quarantined content slot q) object (λ _. ap (quarantined content slot) same ∙ found)
      by false is = refl

-- ---- one after another
twice : (a b : Option StoredObject) → option_or (option_or a b) b ≡ option_or a b
twice None None = refl
twice None (Some x) = refl
twice (Some x) b = refl

joined : (a b : Bool) (old carried mid again : Option StoredObject) → mid ≡ cond a (option_or old carried) old → again ≡ carried → cond (b || false) (option_or mid again) mid ≡ cond (a || (b || false)) (option_or old carried) old
joined true true old carried mid again is same = ap (λ o. option_or o again) is ∙ ap (option_or (option_or old carried)) same ∙ twice old carried
joined true false old carried mid again is same = is
joined false true old carried mid again is same = ap (λ o. option_or o again) is ∙ ap (option_or old) same
joined false false old carried mid again is same = is

module _ (old mid new : FileMap) (slot : ℕ) (front : List ObjectId) (id : ObjectId) where
  pub migrated_more : ((q : ObjectId) → objects mid q ≡ migrated old slot front q) → SameOutside (codes "objects/") old mid → ((q : ObjectId) → objects new q ≡ migrated mid slot (id ∷ []) q)
      → (q : ObjectId) → objects new q ≡ migrated old slot (front ++ id ∷ []) q
  unfolding migrated with_carried
  migrated_more before outside one q =
      one q
      ∙ joined (list_any (id_eq q) front) (id_eq q id) (objects old q) (quarantined old slot q) (objects mid q) (quarantined mid slot q) (before q) (quarantined-same old mid slot outside q)
      ∙ ap (λ b. cond b (option_or (objects old q) (quarantined old slot q)) (objects old q)) (sym (list_any-append (id_eq q) front (id ∷ [])))

pub migrated_none : (content : FileMap) (slot : ℕ) (q : ObjectId) → objects content q ≡ migrated content slot [] q
unfolding migrated
migrated_none content slot q = refl

-- ---- what is stored of what a push carries
module _ (content : FileMap) (slot : ℕ) where
  not_held : (names : List ObjectId) → HoldsNames content slot names → (id : ObjectId) → list_any (id_eq id) names ≡ false → quarantined content slot id ≡ None
  not_held names holds id absent = by (quarantined content slot id) refl
    where
      by : (o : Option StoredObject) → quarantined content slot id ≡ o → o ≡ None
      by None is = refl
      by (Some object) is =
          absurd (true≢false (sym (list_any-from_Contains id_eq_equiv id names (holds.only id (subst IsSome (sym is) refl))) ∙ absent))

  nothing_more : (o : Option StoredObject) → o ≡ option_or o None
  nothing_more None = refl
  nothing_more (Some object) = refl

  -- the objects with all that is held are the objects that the push sees
  pub migrated-all : (names : List ObjectId) → HoldsNames content slot names → (id : ObjectId) → migrated content slot names id ≡ objects_seen content slot id
  unfolding migrated with_carried
  migrated-all names holds id = by (list_any (id_eq id) names) refl
    where
      by : (b : Bool) → list_any (id_eq id) names ≡ b → cond b (option_or (objects content id) (quarantined content slot id)) (objects content id) ≡ option_or (objects content id) (quarantined content slot id)
      by true is = refl
      by false is = nothing_more (objects content id) ∙ ap (option_or (objects content id)) (sym (not_held names holds id is))

  -- and with some of it each is as it was, or as the push sees it
  pub migrated-some : (names : List ObjectId) (id : ObjectId) → (migrated content slot names id ≡ objects content id) ⊎ (migrated content slot names id ≡ objects_seen content slot id)
  unfolding migrated
  migrated-some names id = elim (list_any (id_eq id) names) as (λ b. (cond b (objects_seen content slot id) (objects content id) ≡ objects content id) ⊎ (cond b (objects_seen content slot id) (objects content id) ≡ objects_seen content slot id)) [
    | true ↦ inr refl
    | false ↦ inl refl
  ]

pub front-some : (old new : FileMap) (slot : ℕ) (names : List ObjectId) → IsFrontMigrated old slot names new → (id : ObjectId) → (objects new id ≡ objects old id) ⊎ (objects new id ≡ objects_seen old slot id)
front-some old new slot names f id = elim (migrated-some old slot f.front id) [ inl is ↦ inl (f.stored id ∙ is) | inr is ↦ inr (f.stored id ∙ is) ]
