-- Where what an open push carries stands until it is stored: `quarantine/`, the slot, and the digits of the name.
use Rattle.std.specs.Prelude.{◌≡◌, ◌⊎◌, ℕ, true, nat_eq, List, [], ◌∷◌, ◌++◌, take, drop, codes, decimal, Some, None, Err, if◌then◌else◌}
use Rattle.std.specs.FinMap as files
use Rattle.std.specs.List.{starts_with}
use Rattle.std.specs.Result.{result_ok}
use Rattle.hex.specs.Hex.{encode_lower}
use Rattle.vc_files.specs.FileMap.{FileMap}
use Rattle.vc_object.specs.Decoding.{StoredObject}
use Rattle.vc_object.specs.ObjectId.{id_eq, is_id}
use Rattle.vc_object.specs.ObjectMap.{ObjectMap}
use Rattle.vc_object.specs.declared.id.ObjectId.{ObjectId}
use Rattle.vc_object_map.specs.Store.{stored_in, objects}
use Rattle.vc_object_map.specs.declared.faults.StoreFault.TheVariants.{Damaged}
use Rattle.vc_object_map.specs.Overlay.{with_carried}

-- the folder of a slot
abbrev pub quarantine_folder : ℕ → List ℕ
quarantine_folder slot = codes "quarantine/" ++ (decimal slot ++ 47 ∷ [])

-- where an object's file stands in it
abbrev pub quarantine_path : ℕ → List ℕ → List ℕ
quarantine_path slot name = quarantine_folder slot ++ (encode_lower (take 1 name) ++ 47 ∷ encode_lower (drop 1 name))

-- the objects that a slot's quarantine holds, by name
unfoldable pub quarantined : FileMap → ℕ → ObjectMap
quarantined content slot id = if is_id id then result_ok (stored_in id (files.get content (quarantine_path slot id.0))) else None

-- it holds this object under this name, and of each other name what it held
abbrev pub Quarantines : (slot : ℕ) → ObjectId → StoredObject → (old new : FileMap) → Type 0
Quarantines slot id object old new = (q : ObjectId) → quarantined new slot q ≡ (if id_eq q id then Some object else quarantined old slot q)

-- the file with that name is no object with that name
abbrev pub IsDamagedThere : FileMap → ℕ → ObjectId → Type 0
IsDamagedThere content slot id = stored_in id (files.get content (quarantine_path slot id.0)) ≡ Err (Damaged id)

-- what is stored, and what the slot's push carries
abbrev pub objects_seen : FileMap → ℕ → ObjectMap
objects_seen content slot = with_carried (objects content) (quarantined content slot)

-- no file is left in the folder
abbrev pub IsDropped : ℕ → FileMap → Type 0
IsDropped slot content = (path : List ℕ) → starts_with nat_eq path (quarantine_folder slot) ≡ true → files.get content path ≡ None

-- each file is as it was, or is gone
pub record OnlyLoses (old new : FileMap) : Type 0 where
  pub at : (path : List ℕ) → (files.get new path ≡ files.get old path) ⊎ (files.get new path ≡ None)
