-- What the removal of an object's file does to the objects.
use Rattle.std.proofs.Common.{◌≡◌, ℕ, Bool, true, false, cond, List, Option, Some, None, Result, Ok, Err, sym, ap, refl, ◌∙◌}
use Rattle.std.specs.Prelude.{bytes_eq, is_ok, is_some}
use Rattle.std.specs.Result.{result_ok}
use Rattle.std.specs.FinMap as files
use Rattle.std.proofs.lemmas.Slice.Eq.{bytes_eq-Decides}
use Rattle.std.proofs.lemmas.Bool.{false_from_ne_true}
use Rattle.vc_files.specs.FileMap.{FileMap}
use Rattle.vc_files.proofs.FileMapLemmas.{get-unput}
use Rattle.vc_files.proofs.RemovalLemmas.{unput_absent}
use Rattle.vc_lemmas.proofs.Texts.{bytes_eq_same}
use Rattle.vc_object.specs.Decoding.{StoredObject, decoded}
use Rattle.vc_object.specs.Object.{object_name}
use Rattle.vc_object.specs.ObjectId.{is_id}
use Rattle.vc_object.specs.declared.id.ObjectId.{ObjectId}
use Rattle.vc_object.proofs.IdLemmas.{id_eq-same}
use Rattle.vc_object_map.specs.declared.faults.StoreFault.{StoreFault}
use Rattle.vc_object_map.specs.declared.faults.StoreFault.TheVariants.{Absent, Damaged}
use Rattle.vc_object_map.specs.Removal.{without_object}
use Rattle.vc_object_map.specs.Store.{object_path, stored, stored_in, named, objects, IsDamaged}
use Rattle.vc_store.proofs.StoreLemmas.{one_name, objects-absent}

-- whether an object is there is whether its file is one
pub objects-is_some : (content : FileMap) (id : ObjectId) → is_id id ≡ true → is_some (objects content id) ≡ is_ok (stored content id)
unfolding objects
objects-is_some content id valid = ap (λ b. is_some (cond b (result_ok (stored content id)) None)) valid ∙ by (stored content id)
  where
    by : (r : Result StoredObject StoreFault) → is_some (result_ok r) ≡ is_ok r
    by (Ok object) = refl
    by (Err e) = refl

no_file : (id : ObjectId) (found : Option (List ℕ)) → stored_in id found ≡ Err (Absent id) → found ≡ None
no_file id None h = refl
no_file id (Some bytes) h = absurd (by (decoded bytes) h)
  where
    by : (object : Option StoredObject) → named id object ≡ Err (Absent id) → ⊥
    by None h = cc h
    by (Some object) h =
        elim (bytes_eq (object_name object.kind object.body).0 id.0) as (λ b. ◌≡◌ {A = Result StoredObject StoreFault} (cond b (Ok object) (Err (Damaged id))) (Err (Absent id)) → ⊥) [
          | true ↦ λ e. cc e
          | false ↦ λ e. cc e
        ] h

-- an object that is absent has no file
pub absent-unput : (content : FileMap) (id : ObjectId) → stored content id ≡ Err (Absent id) → content ≡ files.remove content (object_path id.0)
absent-unput content id absent = unput_absent content (object_path id.0) (no_file id (files.get content (object_path id.0)) absent)

-- another name has another file
elsewhere : (id q : ObjectId) → is_id id ≡ true → is_id q ≡ true → bytes_eq q.0 id.0 ≡ false → bytes_eq (object_path q.0) (object_path id.0) ≡ false
elsewhere id q valid p other = false_from_ne_true _ (λ same.
    let e : q.0 ≡ id.0 = one_name q.0 id.0 p valid ((bytes_eq-Decides (object_path q.0) (object_path id.0)).0 same) in
    let yes : bytes_eq q.0 id.0 ≡ true = (bytes_eq-Decides q.0 id.0).1 e in
    cc)

module _ (content : FileMap) (id : ObjectId) where
  abbrev without : FileMap
  without = files.remove content (object_path id.0)

  unput : (q : List ℕ) (b : Bool) → bytes_eq q (object_path id.0) ≡ b → files.get without q ≡ cond b None (files.get content q)
  unput q b e = get-unput content (object_path id.0) q ∙ ap (λ t. cond t None (files.get content q)) e

  -- so what is there stays there
  stays_at : is_id id ≡ true → (q : ObjectId) → bytes_eq q.0 id.0 ≡ false → objects without q ≡ objects content q
  unfolding objects
  stays_at valid q other =
      elim (is_id q) as (λ b. is_id q ≡ b → cond b (result_ok (stored without q)) None ≡ cond b (result_ok (stored content q)) None) [
        | true ↦ λ p. ap (λ found. result_ok (stored_in q found)) (unput (object_path q.0) false (elsewhere id q valid p other))
        | false ↦ λ _. refl
      ] refl

  gone_at : is_id id ≡ true → (q : ObjectId) → objects without q ≡ without_object (objects content) id q
  unfolding without_object
  gone_at valid q =
      elim (bytes_eq q.0 id.0) as (λ b. bytes_eq q.0 id.0 ≡ b → objects without q ≡ cond b None (objects content q)) [
        | true ↦ λ same. ap (objects without) (id_eq-same q id same) ∙ objects-absent without id (Absent id) (ap (stored_in id) (unput (object_path id.0) true (bytes_eq_same (object_path id.0))))
        | false ↦ λ other. stays_at valid q other
      ] refl

  -- without its file the object is gone, and no other
  pub objects-unput : is_id id ≡ true → objects without ≡ without_object (objects content) id
  objects-unput valid i q = gone_at valid q i

  -- no file is damaged then that was not
  pub damage-unput : (q : ObjectId) → IsDamaged without q → IsDamaged content q
  damage-unput q bad = by (bytes_eq (object_path q.0) (object_path id.0)) refl
    where
      by : (b : Bool) → bytes_eq (object_path q.0) (object_path id.0) ≡ b → IsDamaged content q
      by true same =
          let no : ◌≡◌ {A = Result StoredObject StoreFault} (Err (Absent q)) (Err (Damaged q)) = sym (ap (stored_in q) (unput (object_path q.0) true same)) ∙ bad in
          absurd (cc no)
      by false other = ap (stored_in q) (sym (unput (object_path q.0) false other)) ∙ bad
