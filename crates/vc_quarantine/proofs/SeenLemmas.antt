-- What a push sees under a name.
use Rattle.std.proofs.Common.{◌≡◌, ℕ, Some, None, ap}
use Rattle.std.specs.Option.{option_or}
use Rattle.vc_files.specs.FileMap.{FileMap}
use Rattle.vc_object_map.specs.Overlay.{with_carried}
use Rattle.vc_object.specs.Decoding.{StoredObject}
use Rattle.vc_object.specs.declared.id.ObjectId.{ObjectId}
use Rattle.vc_push_rules.specs.Quarantine.{objects_seen, quarantined}
use Rattle.vc_object_map.specs.Store.{objects}
use Rattle.vc_object_map.specs.StoreFault.{IsRefused}
use Rattle.vc_object_map.specs.declared.faults.StoreFault.{StoreFault}
use Rattle.vc_object_map.specs.declared.faults.StoreFault.TheVariants.{Absent, BadObject, Damaged, Fault}

module _ (content : FileMap) (slot : ℕ) (id : ObjectId) where
  pub seen_stored : (object : StoredObject) → objects content id ≡ Some object → objects_seen content slot id ≡ Some object
  unfolding with_carried
  seen_stored object h = ap (λ o. option_or o (quarantined content slot id)) h

  pub seen_carried : objects content id ≡ None → objects_seen content slot id ≡ quarantined content slot id
  unfolding with_carried
  seen_carried h = ap (λ o. option_or o (quarantined content slot id)) h

-- a refusal that says less
pub refused_more : {Less More : Type 0} (id : ObjectId) (e : StoreFault) → (Less → More) → IsRefused id Less e → IsRefused id More e
refused_more id (BadObject fault) more h = h
refused_more id (Absent absent) more h = h
refused_more id (Damaged damaged) more h = (h.0, more h.1)
refused_more id (Fault fault) more h = h
