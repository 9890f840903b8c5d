-- What no step of a push makes: a bad file in the place of an object, of the refs or in a quarantine.
use Rattle.std.specs.Prelude.{◌≡◌, ℕ, ◌<◌, ◌^◌, List}
use Rattle.vc_files.specs.FileMap.{FileMap}
use Rattle.vc_object.specs.declared.id.ObjectId.{ObjectId}
use Rattle.vc_refs.specs.Refs.{IsBadRef, packed_map}
use Rattle.vc_object_map.specs.Store.{IsDamaged}
use Rattle.vc_push_rules.specs.Quarantine.{IsDamagedThere}

-- What is bad now was so before.
pub record MakesNoneBad (old new : FileMap) : Type 0 where
  pub objects : (id : ObjectId) → IsDamaged new id → IsDamaged old id
  pub refs : (path : List ℕ) → IsBadRef new path → IsBadRef old path
  -- a slot is written in digits, which are told apart for any number that fits in 64 bits
  pub quarantines : (slot : ℕ) → slot < 2 ^ 64 → (id : ObjectId) → IsDamagedThere new slot id → IsDamagedThere old slot id

-- The packed refs are as they were: of a step that does not pack refs.
abbrev pub KeepsPacked : FileMap → FileMap → Type 0
KeepsPacked old new = packed_map new ≡ packed_map old

-- each file in the place of an object in the slot's quarantine is that object
abbrev pub IsQuarantineClean : FileMap → ℕ → Type 0
IsQuarantineClean content slot = (id : ObjectId) → ¬ IsDamagedThere content slot id
