-- Why a migration is refused, and that none of its writes damages an object.
use Rattle.std.proofs.Common.{arith, ◌≡◌, ℕ, zero, suc, Bool, true, false, cond, List, [], ◌∷◌, Option, Some, None, refl, sym, ap, ◌∙◌, subst, ◌⊎◌, inl, inr}
use Rattle.std.specs.Prelude.{Contains, bytes_eq, codes, is_some, unwrap_or}
use Rattle.std.specs.FinMap as files
use Rattle.std.proofs.lemmas.Bool.{false_from_ne_true}
use Rattle.std.proofs.lemmas.Slice.Eq.{bytes_eq-Decides}
use Rattle.vc_files.proofs.FileMapLemmas.{get-put}
use Rattle.vc_files.specs.FileMap.{FileMap, SameOutside}
use Rattle.vc_object.specs.Decoding.{StoredObject}
use Rattle.vc_object.specs.Object.{object_bytes, object_name}
use Rattle.vc_object.specs.ObjectId.{is_id}
use Rattle.vc_object.specs.ObjectMap.{ObjectMap}
use Rattle.vc_object.specs.declared.id.ObjectId.{ObjectId}
use Rattle.vc_store.proofs.PathLemmas.{name_in-object_path, named_by_path}
use Rattle.vc_store.proofs.StoreLemmas.{objects-absent}
use Rattle.vc_object_map.specs.Store.{IsDamaged, name_in, object_path, objects, stored_in, with_file, with_object}
use Rattle.vc_object_map.specs.StoreFault.{IsFault, IsOfDamage, IsRefused}
use Rattle.vc_object_map.specs.declared.faults.StoreFault.{StoreFault}
use Rattle.vc_object_map.specs.declared.faults.StoreFault.TheVariants.{Absent, BadObject, Damaged, Fault}
use Rattle.vc_push_rules.proofs.QuarantineLemmas.{quarantined-same}
use Rattle.vc_push_rules.specs.Quarantine.{IsDamagedThere, quarantine_path}
use Rattle.vc_quarantine.specs.Blames.{BlamesMigration}

-- ---- a put damages nothing
module _ (old new : FileMap) (name : ObjectId) (object : StoredObject) (valid : is_id name ≡ true) (is : object_name object.kind object.body ≡ name) (file : new ≡ with_file old object) (put : objects new ≡ with_object (objects old) name object) where
  abbrev place : List ℕ
  place = object_path (object_name object.kind object.body).0

  apart : (q : ObjectId) → bytes_eq q.0 name.0 ≡ false → bytes_eq (object_path q.0) place ≡ false
  apart q other = false_from_ne_true _ (λ same.
      let path : object_path q.0 ≡ object_path name.0 = (bytes_eq-Decides (object_path q.0) place).0 same ∙ ap (λ (id : ObjectId). object_path id.0) is in
      let named : is_id q ≡ true = named_by_path q.0 name.0 valid path in
      let found : Some q ≡ Some name = sym (name_in-object_path q.0 named) ∙ ap name_in path ∙ name_in-object_path name.0 valid in
      let e : q.0 ≡ name.0 = ap (λ (o : Option ObjectId). (unwrap_or o q).0) found in
      let yes : bytes_eq q.0 name.0 ≡ true = (bytes_eq-Decides q.0 name.0).1 e in
      cc)

  elsewhere : (path : List ℕ) → bytes_eq path place ≡ false → files.get (with_file old object) path ≡ files.get old path
  unfolding with_file
  elsewhere path other =
      elim (is_some (files.get old place)) as (λ b. files.get (cond b old (files.insert old place (object_bytes object.kind object.body))) path ≡ files.get old path) [
        | true ↦ refl
        | false ↦ get-put old place (object_bytes object.kind object.body) path ∙ ap (λ b. cond b (Some (object_bytes object.kind object.body)) (files.get old path)) other
      ]

  there : (q : ObjectId) → bytes_eq q.0 name.0 ≡ true → objects new q ≡ Some (unwrap_or (objects old name) object)
  unfolding with_object
  there q same = ap (λ (o : ObjectMap). o q) put ∙ ap (λ b. cond b (Some (unwrap_or (objects old name) object)) (objects old q)) same

  -- what is damaged afterwards was so before
  pub damaged_before : (q : ObjectId) → IsDamaged new q → IsDamaged old q
  damaged_before q damaged = by (bytes_eq q.0 name.0) refl
    where
      by : (b : Bool) → bytes_eq q.0 name.0 ≡ b → IsDamaged old q
      by true same =
          absurd (let none : objects new q ≡ None = objects-absent new q (Damaged q) damaged in
          let bad : Some (unwrap_or (objects old name) object) ≡ None = sym (there q same) ∙ none in
          cc bad)
      by false other =
          let found : files.get new (object_path q.0) ≡ files.get old (object_path q.0) = ap (λ (m : FileMap). files.get m (object_path q.0)) file ∙ elsewhere (object_path q.0) (apart q other) in
          ap (stored_in q) (sym found) ∙ damaged

-- ---- why one object is not stored
itself : (id : ObjectId) → Contains (id ∷ []) id
itself id = (0, omega arith, refl)

-- by its file in the quarantine
pub carried_blames : {H : Type 0} (content : FileMap) (slot : ℕ) (id : ObjectId) (e : StoreFault) → H → IsRefused id (H → IsDamagedThere content slot id) e → BlamesMigration content slot (id ∷ []) e
carried_blames content slot id (BadObject fault) h b = b
carried_blames content slot id (Absent absent) h b = absurd b
carried_blames content slot id (Damaged damaged) h b =
    subst (λ (n : ObjectId). BlamesMigration content slot (id ∷ []) (Damaged n)) (sym b.0) (itself id, inr (b.1 h))
carried_blames content slot id (Fault fault) h b = tt

-- by its file in the store
pub put_blames : (content : FileMap) (slot : ℕ) (id : ObjectId) (e : StoreFault) → IsFault e ⊎ (e ≡ Damaged id) → IsOfDamage content e → BlamesMigration content slot (id ∷ []) e
put_blames content slot id (BadObject fault) of damage = elim of [ inl fault_of ↦ absurd fault_of | inr is ↦ absurd (cc is) ]
put_blames content slot id (Absent absent) of damage = elim of [ inl fault_of ↦ absurd fault_of | inr is ↦ absurd (cc is) ]
put_blames content slot id (Damaged damaged) of damage =
    elim of [ inl fault_of ↦ absurd fault_of | inr is ↦ (let same : damaged ≡ id = cc is in (subst (Contains (id ∷ [])) (sym same) (itself id), inl damage)) ]
put_blames content slot id (Fault fault) of damage = tt

-- ---- after those before it
only_one : (names : List ObjectId) (id found : ObjectId) → Contains names id → Contains (id ∷ []) found → Contains names found
only_one names id found among (zero, within, is) = subst (Contains names) is among
only_one names id found among (suc k, within, is) = absurd (omega (arith, within))

module _ (old mid : FileMap) (slot : ℕ) (names : List ObjectId) (id : ObjectId) (among : Contains names id) (outside : SameOutside (codes "objects/") old mid) (undamaged : (q : ObjectId) → IsDamaged mid q → IsDamaged old q) where
  pub blames_before : (e : StoreFault) → BlamesMigration mid slot (id ∷ []) e → BlamesMigration old slot names e
  blames_before (BadObject fault) b = b
  blames_before (Absent absent) b = (only_one names id absent among b.0, sym (quarantined-same old mid slot outside absent) ∙ b.1)
  blames_before (Damaged damaged) b =
      (only_one names id damaged among b.0, elim b.1 [ inl stored ↦ inl (undamaged damaged stored) | inr there ↦ inr (ap (stored_in damaged) (sym (outside.at (quarantine_path slot damaged.0) refl)) ∙ there) ])
  blames_before (Fault fault) b = tt
