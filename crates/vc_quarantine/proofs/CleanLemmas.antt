-- Changes of a repository's files that make none of them bad: for the steps of a push, and for those who run them.
use Rattle.std.proofs.Common.{◌≡◌, ◌<◌, ◌^◌, inl, inr, ℕ, Bool, true, false, cond, nat_eq, List, ◌∷◌, ◌++◌, take, drop, Option, Some, None, Result, Ok, Err, refl, sym, ap, ◌∙◌, subst}
use Rattle.std.specs.Prelude.{bytes_eq, codes}
use Rattle.std.specs.FinMap as files
use Rattle.std.specs.List.{starts_with}
use Rattle.std.proofs.lemmas.Slice.Eq.{bytes_eq-Decides}
use Rattle.hex.specs.Hex.{encode_lower}
use Rattle.vc_files.proofs.FileMapLemmas.{get-put}
use Rattle.vc_files.specs.FileMap.{FileMap, SameOutside}
use Rattle.vc_lemmas.proofs.Texts.{starts_with-append}
use Rattle.vc_object.proofs.IdLemmas.{id_eq-same}
use Rattle.vc_object.specs.Decoding.{StoredObject, stored_object}
use Rattle.vc_object.specs.Object.{object_bytes, object_name, IsObject}
use Rattle.vc_object.specs.ObjectId.{is_id}
use Rattle.vc_object.specs.declared.id.ObjectId.{ObjectId}
use Rattle.vc_object.specs.declared.kind.Kind.{Kind}
use Rattle.vc_refs.proofs.LayeredLemmas.{bad-same, bad_place, good_absent}
use Rattle.vc_refs.specs.Head.{KeepsOutside, KeepsTheRest}
use Rattle.vc_refs.specs.Refs.{IsBadRef}
use Rattle.vc_store.proofs.PathLemmas.{named_by_path}
use Rattle.vc_object_map.specs.Store.{IsDamaged, object_path, stored_in}
use Rattle.vc_object_map.specs.declared.faults.StoreFault.{StoreFault}
use Rattle.vc_object_map.specs.declared.faults.StoreFault.TheVariants.{Absent, Damaged}
use Rattle.vc_push_rules.proofs.FrameLemmas.{damage-of_slot, damage-same, ref_no_object, ref_not_there, slot_of}
use Rattle.vc_push_rules.proofs.QuarantineLemmas.{outside_put_there, put_there, same_path, same_place}
use Rattle.vc_quarantine.specs.Clean.{IsQuarantineClean, MakesNoneBad}
use Rattle.vc_push_rules.specs.Quarantine.{IsDamagedThere, IsDropped, OnlyLoses, quarantine_folder, quarantine_path}

-- ---- no change, and one change after another
pub bad_same : (old new : FileMap) → new ≡ old → MakesNoneBad old new
bad_same old new same = record {
  objects = λ id bad. subst (λ (m : FileMap). IsDamaged m id) same bad;
  refs = λ path bad. subst (λ (m : FileMap). IsBadRef m path) same bad;
  quarantines = λ slot small id bad. subst (λ (m : FileMap). IsDamagedThere m slot id) same bad;
}

pub bad_then : {old mid new : FileMap} → MakesNoneBad old mid → MakesNoneBad mid new → MakesNoneBad old new
bad_then first second = record {
  objects = λ id bad. first.objects id (second.objects id bad);
  refs = λ path bad. first.refs path (second.refs path bad);
  quarantines = λ slot small id bad. first.quarantines slot small id (second.quarantines slot small id bad);
}

-- after a call that changed nothing, and before one
pub bad_from : {old mid new : FileMap} → mid ≡ old → MakesNoneBad mid new → MakesNoneBad old new
bad_from {new = new} same none = subst (λ (m : FileMap). MakesNoneBad m new) same none

pub bad_on : {old mid new : FileMap} → MakesNoneBad old mid → new ≡ mid → MakesNoneBad old new
bad_on {old = old} none same = subst (λ (m : FileMap). MakesNoneBad old m) (sym same) none

-- ---- a file is bad by itself alone
damage_there-same : (old new : FileMap) (slot : ℕ) (id : ObjectId) → files.get new (quarantine_path slot id.0) ≡ files.get old (quarantine_path slot id.0) → IsDamagedThere new slot id → IsDamagedThere old slot id
damage_there-same old new slot id same bad = ap (stored_in id) (sym same) ∙ bad

-- it is none of an object, and of no quarantine
pub bad_no_object : (content : FileMap) (path : List ℕ) → IsBadRef content path → starts_with nat_eq path (codes "objects/") ≡ false
bad_no_object content path bad = elim (bad_place content path bad) [
  | inl inside ↦ ref_no_object path inside
  | inr packed ↦ ap (λ p. starts_with nat_eq p (codes "objects/")) packed
]

bad_not_there : (slot : ℕ) (content : FileMap) (path : List ℕ) → IsBadRef content path → starts_with nat_eq path (quarantine_folder slot) ≡ false
bad_not_there slot content path bad = elim (bad_place content path bad) [
  | inl inside ↦ ref_not_there slot path inside
  | inr packed ↦ ap (λ p. starts_with nat_eq p (quarantine_folder slot)) packed
]

-- and one that is gone isn't
not_gone : (id : ObjectId) (found : Option (List ℕ)) → found ≡ None → stored_in id found ≡ Err (Damaged id) → ⊥
not_gone id found gone bad =
    let no : ◌≡◌ {A = Result StoredObject StoreFault} (Err (Absent id)) (Err (Damaged id)) = sym (ap (stored_in id) gone) ∙ bad in
    cc no

-- ---- files that are taken away
pub bad_loses : (old new : FileMap) → OnlyLoses old new → MakesNoneBad old new
bad_loses old new lost = record {
  objects = λ id bad. elim (lost.at (object_path id.0)) [ inl same ↦ damage-same old new id same bad | inr gone ↦ absurd (not_gone id (files.get new (object_path id.0)) gone bad) ];
  refs = λ path bad. elim (lost.at path) [ inl same ↦ bad-same old new path same bad | inr gone ↦ absurd (good_absent new path gone bad) ];
  quarantines = λ slot small id bad.
      elim (lost.at (quarantine_path slot id.0)) [
        | inl same ↦ damage_there-same old new slot id same bad
        | inr gone ↦ absurd (not_gone id (files.get new (quarantine_path slot id.0)) gone bad)
      ];
}

-- ---- objects that are stored, of which none becomes damaged
pub bad_objects : (old new : FileMap) → SameOutside (codes "objects/") old new → ((id : ObjectId) → IsDamaged new id → IsDamaged old id) → MakesNoneBad old new
bad_objects old new outside undamaged = record {
  objects = undamaged;
  refs = λ path bad. bad-same old new path (outside.at path (bad_no_object new path bad)) bad;
  quarantines = λ slot small id bad. damage_there-same old new slot id (outside.at (quarantine_path slot id.0) refl) bad;
}

-- ---- refs that are set
pub bad_outside : (old new : FileMap) → KeepsOutside old new → MakesNoneBad old new
bad_outside old new outside = record {
  objects = λ id. damage-same old new id (outside.at (object_path id.0) refl refl);
  refs = outside.good;
  quarantines = λ slot small id bad. damage_there-same old new slot id (outside.at (quarantine_path slot id.0) refl refl) bad;
}

-- one alone
pub bad_ref : (old new : FileMap) (name : List ℕ) → KeepsTheRest name old new → MakesNoneBad old new
bad_ref old new name rest = bad_outside old new rest.outside

-- ---- a quarantine with no bad file
pub clean_dropped : (content : FileMap) (slot : ℕ) → IsDropped slot content → IsQuarantineClean content slot
clean_dropped content slot dropped id bad =
    not_gone id (files.get content (quarantine_path slot id.0)) (dropped (quarantine_path slot id.0) (starts_with-append (quarantine_folder slot) (encode_lower (take 1 id.0) ++ 47 ∷ encode_lower (drop 1 id.0)))) bad

pub clean_after : (old new : FileMap) (slot : ℕ) → slot < 2 ^ 64 → MakesNoneBad old new → IsQuarantineClean old slot → IsQuarantineClean new slot
clean_after old new slot small none clean id bad = clean id (none.quarantines slot small id bad)

-- ---- an object that is put into a quarantine
module _ (old : FileMap) (slot : ℕ) (id : ObjectId) (kind : Kind) (body : List ℕ) (small : slot < 2 ^ 64) (valid : is_id id ≡ true) (is : id ≡ object_name kind body) (object : ∥ IsObject kind body ∥₁) where
  abbrev path : List ℕ
  path = quarantine_path slot id.0

  abbrev new : FileMap
  new = files.insert old path (object_bytes kind body)

  -- what has its path is of its slot and has its name
  the_slot : (other : ℕ) (q : ObjectId) → other < 2 ^ 64 → quarantine_path other q.0 ≡ path → other ≡ slot
  the_slot other q fits same =
      slot_of slot other (encode_lower (take 1 q.0) ++ 47 ∷ encode_lower (drop 1 q.0)) small fits
      (ap (λ p. starts_with nat_eq p (quarantine_folder slot)) same ∙ starts_with-append (quarantine_folder slot) (encode_lower (take 1 id.0) ++ 47 ∷ encode_lower (drop 1 id.0)))

  the_name : (q : ObjectId) → quarantine_path slot q.0 ≡ path → q ≡ id
  the_name q same =
      let named : is_id q ≡ true = named_by_path q.0 id.0 valid (same_place slot q.0 id.0 same) in
      id_eq-same q id ((bytes_eq-Decides q.0 id.0).1 (same_path slot q.0 id.0 named valid same))

  written : (q : List ℕ) → bytes_eq q path ≡ true → files.get new q ≡ Some (object_bytes kind body)
  written q same = get-put old path (object_bytes kind body) q ∙ ap (λ b. cond b (Some (object_bytes kind body)) (files.get old q)) same

  good : (q : ObjectId) → q ≡ id → stored_in q (Some (object_bytes kind body)) ≡ Err (Damaged q) → ⊥
  good q same bad =
      let here : stored_in id (Some (object_bytes kind body)) ≡ Err (Damaged id) = subst (λ (x : ObjectId). stored_in x (Some (object_bytes kind body)) ≡ Err (Damaged x)) same bad in
      let no : ◌≡◌ {A = Result StoredObject StoreFault} (Ok (stored_object kind body)) (Err (Damaged id)) = sym (put_there id kind body is object) ∙ here in
      cc no

  by : (other : ℕ) (q : ObjectId) (b : Bool) → other < 2 ^ 64 → bytes_eq (quarantine_path other q.0) path ≡ b → IsDamagedThere new other q → IsDamagedThere old other q
  by other q true fits e bad =
      let same : quarantine_path other q.0 ≡ path = (bytes_eq-Decides (quarantine_path other q.0) path).0 e in
      let name : q ≡ id = the_name q (subst (λ (n : ℕ). quarantine_path n q.0 ≡ path) (the_slot other q fits same) same) in
      absurd (good q name (sym (ap (stored_in q) (written (quarantine_path other q.0) e)) ∙ bad))
  by other q false fits e bad =
      damage_there-same old new other q (get-put old path (object_bytes kind body) (quarantine_path other q.0) ∙ ap (λ b. cond b (Some (object_bytes kind body)) (files.get old (quarantine_path other q.0))) e) bad

  pub bad_put : MakesNoneBad old new
  bad_put = record {
    objects = damage-of_slot slot old new (outside_put_there old slot id.0 (object_bytes kind body));
    refs = λ q bad. bad-same old new q ((outside_put_there old slot id.0 (object_bytes kind body)).at q (bad_not_there slot new q bad)) bad;
    quarantines = λ other fits q bad. by other q (bytes_eq (quarantine_path other q.0) path) fits refl bad;
  }
