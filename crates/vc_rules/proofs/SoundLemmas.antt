-- The objects of files are objects, and their names are legal.
use Rattle.std.proofs.Common.{◌≡◌, ℕ, Bool, true, false, cond, Ok, Err, List, Option, Some, None, refl, subst, w8}
use Rattle.std.specs.Prelude.{bytes_eq}
use Rattle.std.specs.FinMap.{get}
use Rattle.std.specs.Option.{option_or}
use Rattle.std.specs.Result.{result_ok}
use Rattle.std.proofs.Math.Facts.{Fits-of_lt}
use Rattle.vc_files.specs.FileMap.{FileMap}
use Rattle.vc_object.specs.Decoding.{StoredObject, decoded}
use Rattle.vc_object.specs.Object.{IsObject, object_bytes, object_name}
use Rattle.vc_object.specs.ObjectId.{is_id}
use Rattle.vc_object.specs.declared.kind.Kind.{Kind}
use Rattle.vc_object.proofs.Decoding.{decoded_some}
use Rattle.vc_object.proofs.IdLemmas.{is_id-from_array}
use Rattle.vc_object.proofs.Names.{byte_of, name_bytes, name_length}
use Rattle.vc_object_map.specs.Store.{objects, object_path, named, stored as stored_file, stored_in}
use Rattle.vc_object_map.specs.declared.faults.StoreFault.TheVariants.{Damaged}
use Rattle.vc_object.specs.declared.id.ObjectId.{ObjectId}
use Rattle.vc_object_map.specs.Overlay.{with_carried}
use Rattle.vc_push_rules.specs.Quarantine.{objects_seen, quarantine_path, quarantined}

named_sound : (id : ObjectId) (q o : StoredObject) (b : Bool) → ◌≡◌ {A = Option StoredObject} (result_ok (cond b (Ok q) (Err (Damaged id)))) (Some o) → q ≡ o
named_sound id q o true h = cc
named_sound id q o false h = cc

read_sound : (id : ObjectId) (bytes : List ℕ) (found : Option StoredObject) (o : StoredObject) → decoded bytes ≡ found → result_ok (named id found) ≡ Some o → IsObject o.kind o.body
read_sound id bytes None o e h = cc
read_sound id bytes (Some q) o e h =
    subst (λ (p : StoredObject). IsObject p.kind p.body) (named_sound id q o (bytes_eq (object_name q.kind q.body).0 id.0) h) ((decoded_some bytes q e).object)

file_sound : (id : ObjectId) (file : Option (List ℕ)) (o : StoredObject) → result_ok (stored_in id file) ≡ Some o → IsObject o.kind o.body
file_sound id None o h = cc
file_sound id (Some bytes) o h = read_sound id bytes (decoded bytes) o refl h

pub objects_sound : (content : FileMap) (id : ObjectId) (o : StoredObject) → objects content id ≡ Some o → IsObject o.kind o.body
unfolding objects
objects_sound content id o = by (is_id id)
  where
    by : (b : Bool) → cond b (result_ok (stored_file content id)) None ≡ Some o → IsObject o.kind o.body
    by true h = file_sound id (get content (object_path id.0)) o h
    by false h = cc

quarantined_sound : (content : FileMap) (slot : ℕ) (id : ObjectId) (o : StoredObject) → quarantined content slot id ≡ Some o → IsObject o.kind o.body
unfolding quarantined
quarantined_sound content slot id o = by (is_id id)
  where
    by : (b : Bool) → cond b (result_ok (stored_in id (get content (quarantine_path slot id.0)))) None ≡ Some o → IsObject o.kind o.body
    by true h = file_sound id (get content (quarantine_path slot id.0)) o h
    by false h = cc

either_sound : (stored carried : Option StoredObject) (o : StoredObject) → ((p : StoredObject) → stored ≡ Some p → IsObject p.kind p.body) → ((p : StoredObject) → carried ≡ Some p → IsObject p.kind p.body)
    → option_or stored carried ≡ Some o → IsObject o.kind o.body
either_sound None carried o first second h = second o h
either_sound (Some x) carried o first second h = first o h

pub seen_sound : (content : FileMap) (slot : ℕ) (id : ObjectId) (o : StoredObject) → objects_seen content slot id ≡ Some o → IsObject o.kind o.body
unfolding with_carried
seen_sound content slot id o h =
    either_sound (objects content id) (quarantined content slot id) o (λ p e. objects_sound content id p e) (λ p e. quarantined_sound content slot id p e) h

-- the name of an object
pub name_valid : (kind : Kind) (body : List ℕ) → is_id (object_name kind body) ≡ true
name_valid kind body = is_id-from_array (object_name kind body) (name_length (object_bytes kind body)) (λ i. Fits-of_lt {w = w8} (byte_of (object_name kind body).0 (name_bytes (object_bytes kind body)) i))
