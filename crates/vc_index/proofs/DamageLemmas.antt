-- Files of objects that become damaged by no write: for the writing of trees.
use Rattle.std.proofs.Common.{◌≡◌, ℕ, Bool, true, false, cond, List, Option, Some, None, refl, sym, ap, ◌∙◌, subst}
use Rattle.std.specs.Prelude.{bytes_eq, is_some, unwrap_or}
use Rattle.std.specs.FinMap as files
use Rattle.std.proofs.lemmas.Bool.{false_from_ne_true}
use Rattle.std.proofs.lemmas.Slice.Eq.{bytes_eq-Decides}
use Rattle.vc_files.specs.FileMap.{FileMap}
use Rattle.vc_files.proofs.FileMapLemmas.{get-put}
use Rattle.vc_object.specs.Decoding.{StoredObject, stored_object}
use Rattle.vc_object.specs.Object.{object_name, object_bytes}
use Rattle.vc_object.specs.ObjectId.{is_id}
use Rattle.vc_object.specs.ObjectMap.{ObjectMap}
use Rattle.vc_object.specs.declared.id.ObjectId.{ObjectId}
use Rattle.vc_object.specs.declared.kind.Kind.{Kind}
use Rattle.vc_object_map.specs.Store.{IsDamaged, object_path, objects, stored_in, with_file, with_object, name_in}
use Rattle.vc_object_map.specs.declared.faults.StoreFault.TheVariants.{Damaged}
use Rattle.vc_store.proofs.PathLemmas.{name_in-object_path, named_by_path}
use Rattle.vc_store.proofs.StoreLemmas.{objects-absent}
use Rattle.vc_index.specs.Damage.{KeepsDamage}

pub damage_same : (old new : FileMap) → new ≡ old → KeepsDamage old new
damage_same old new same = record { before = λ id damaged. subst (λ (m : FileMap). IsDamaged m id) same damaged }

pub damage_then : {old mid new : FileMap} → KeepsDamage old mid → KeepsDamage mid new → KeepsDamage old new
damage_then first second = record { before = λ id damaged. first.before id (second.before id damaged) }

apart : (q name : ObjectId) → is_id name ≡ true → bytes_eq q.0 name.0 ≡ false → bytes_eq (object_path q.0) (object_path name.0) ≡ false
apart q name named other = false_from_ne_true _ (λ same.
    let path : object_path q.0 ≡ object_path name.0 = (bytes_eq-Decides (object_path q.0) (object_path name.0)).0 same in
    let valid : is_id q ≡ true = named_by_path q.0 name.0 named path in
    let is : Some q ≡ Some name = sym (name_in-object_path q.0 valid) ∙ ap name_in path ∙ name_in-object_path name.0 named in
    let e : q.0 ≡ name.0 = ap (λ (found : Option ObjectId). (unwrap_or found q).0) is in
    let yes : bytes_eq q.0 name.0 ≡ true = (bytes_eq-Decides q.0 name.0).1 e in
    cc)

-- the file of an object that is put stands at the object's place alone
put_apart : (content : FileMap) (kind : Kind) (body : List ℕ) (q : List ℕ) → bytes_eq q (object_path (object_name kind body).0) ≡ false → files.get (with_file content (stored_object kind body)) q ≡ files.get content q
unfolding with_file
put_apart content kind body q other =
    let path = object_path (object_name kind body).0 in
    elim (is_some (files.get content path)) as (λ b. files.get (cond b content (files.insert content path (object_bytes kind body))) q ≡ files.get content q) [
      | true ↦ refl
      | false ↦ get-put content path (object_bytes kind body) q ∙ ap (λ b. cond b (Some (object_bytes kind body)) (files.get content q)) other
    ]

put_there : (o : ObjectMap) (name q : ObjectId) (object : StoredObject) → bytes_eq q.0 name.0 ≡ true → with_object o name object q ≡ Some (unwrap_or (o name) object)
unfolding with_object
put_there o name q object same = ap (λ b. cond b (Some (unwrap_or (o name) object)) (o q)) same

pub damage_put : (old new : FileMap) (kind : Kind) (body : List ℕ) (name : ObjectId) → name ≡ object_name kind body → is_id name ≡ true → new ≡ with_file old (stored_object kind body) → objects new ≡ with_object (objects old) name (stored_object kind body) → KeepsDamage old new
damage_put old new kind body name is named file put = record { before = λ id damaged. by id damaged (bytes_eq id.0 name.0) refl }
  where
    by : (id : ObjectId) → IsDamaged new id → (b : Bool) → bytes_eq id.0 name.0 ≡ b → IsDamaged old id
    by id damaged true same =
        absurd (let none : objects new id ≡ None = objects-absent new id (Damaged id) damaged in
        let some : objects new id ≡ Some (unwrap_or (objects old name) (stored_object kind body)) = ap (λ (o : ObjectMap). o id) put ∙ put_there (objects old) name id (stored_object kind body) same in
        let bad : Some (unwrap_or (objects old name) (stored_object kind body)) ≡ None = sym some ∙ none in cc bad)
    by id damaged false other =
        let path : bytes_eq (object_path id.0) (object_path (object_name kind body).0) ≡ false = subst (λ (n : ObjectId). bytes_eq (object_path id.0) (object_path n.0) ≡ false) is (apart id name named other) in
        let found : files.get new (object_path id.0) ≡ files.get old (object_path id.0) = ap (λ (m : FileMap). files.get m (object_path id.0)) file ∙ put_apart old kind body (object_path id.0) path in
        ap (stored_in id) (sym found) ∙ damaged
