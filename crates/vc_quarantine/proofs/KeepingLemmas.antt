-- What the steps of a push do leaves each object there: for the functions of this crate, and for who keeps what is known of objects.
use Rattle.std.proofs.Common.{◌≡◌, ◌⊎◌, ⊎_elim, inl, inr, ℕ, List, Some, Option, refl, ap, ◌∙◌}
use Rattle.std.specs.Option.{option_or}
use Rattle.vc_history.specs.Stored.{KeepsObjects}
use Rattle.vc_files.specs.FileMap.{FileMap, SameOutside}
use Rattle.vc_object_map.specs.Overlay.{with_carried}
use Rattle.vc_object.specs.Decoding.{StoredObject}
use Rattle.vc_object.specs.declared.id.ObjectId.{ObjectId}
use Rattle.vc_refs.specs.Head.{KeepsOutside, KeepsTheRest}
use Rattle.vc_object_map.specs.Store.{object_path, objects}
use Rattle.vc_quarantine.proofs.MigratingLemmas.{front-some, migrated-some}
use Rattle.vc_push_rules.proofs.FrameLemmas.{objects-same}
use Rattle.vc_quarantine.specs.Migrating.{IsFrontMigrated, migrated}
use Rattle.vc_push_rules.specs.Quarantine.{objects_seen, quarantine_folder, quarantined}

-- where none changed
pub keeps_beside : (old new : FileMap) → ((id : ObjectId) → objects new id ≡ objects old id) → KeepsObjects old new
keeps_beside old new same = record { at = λ id o is. same id ∙ is }

seen_there : (content : FileMap) (slot : ℕ) (id : ObjectId) (o : StoredObject) → objects content id ≡ Some o → objects_seen content slot id ≡ Some o
unfolding with_carried
seen_there content slot id o is = ap (λ (found : Option StoredObject). option_or found (quarantined content slot id)) is

-- where some of what a push carries was stored
pub keeps_some : (old new : FileMap) (slot : ℕ) → ((id : ObjectId) → (objects new id ≡ objects old id) ⊎ (objects new id ≡ objects_seen old slot id)) → KeepsObjects old new
keeps_some old new slot some = record { at = λ id o is. ⊎_elim (λ same. same ∙ is) (λ added. added ∙ seen_there old slot id o is) (some id) }

pub keeps_migrated : (old new : FileMap) (slot : ℕ) (names : List ObjectId) → ((id : ObjectId) → objects new id ≡ migrated old slot names id) → KeepsObjects old new
keeps_migrated old new slot names stored = keeps_some old new slot (λ id. ⊎_elim (λ is. inl (stored id ∙ is)) (λ is. inr (stored id ∙ is)) (migrated-some old slot names id))

pub keeps_front : (old new : FileMap) (slot : ℕ) (names : List ObjectId) → IsFrontMigrated old slot names new → KeepsObjects old new
keeps_front old new slot names left = keeps_some old new slot (front-some old new slot names left)

-- and a change of a ref, or of a quarantine, leaves each object
pub keeps_outside : (old new : FileMap) → KeepsOutside old new → KeepsObjects old new
keeps_outside old new outside = keeps_beside old new (λ id. objects-same old new id (outside.at (object_path id.0) refl refl))

pub keeps_rest : (name : List ℕ) (old new : FileMap) → KeepsTheRest name old new → KeepsObjects old new
keeps_rest name old new rest = keeps_outside old new rest.outside

pub keeps_quarantine : (slot : ℕ) (old new : FileMap) → SameOutside (quarantine_folder slot) old new → KeepsObjects old new
keeps_quarantine slot old new outside = keeps_beside old new (λ id. objects-same old new id (outside.at (object_path id.0) refl))
