-- What an object that a push sees or carries is blamed for.
use Rattle.std.specs.Prelude.{◌≡◌, ⊤, ℕ, List, None, Contains}
use Rattle.vc_files.specs.FileMap.{FileMap}
use Rattle.vc_object.specs.declared.id.ObjectId.{ObjectId}
use Rattle.vc_push_rules.specs.Quarantine.{quarantined}
use Rattle.vc_quarantine.specs.PushState.{IsDamagedSeen}
use Rattle.vc_object_map.specs.declared.faults.StoreFault.{StoreFault}
use Rattle.vc_object_map.specs.declared.faults.StoreFault.TheVariants as of_store

-- an object's file is damaged, in the store or in the quarantine
abbrev pub BlamesDamage : FileMap → ℕ → StoreFault → Type 0
BlamesDamage content slot (of_store.BadObject fault) = ⊥
BlamesDamage content slot (of_store.Absent id) = ⊥
BlamesDamage content slot (of_store.Damaged id) = IsDamagedSeen content slot id
BlamesDamage content slot (of_store.Fault fault) = ⊥

-- or one that is to be stored is gone from there
abbrev pub BlamesMigration : FileMap → ℕ → List ObjectId → StoreFault → Type 0
BlamesMigration content slot names (of_store.BadObject fault) = ⊥
BlamesMigration content slot names (of_store.Absent id) = Contains names id × (quarantined content slot id ≡ None)
BlamesMigration content slot names (of_store.Damaged id) = Contains names id × IsDamagedSeen content slot id
BlamesMigration content slot names (of_store.Fault fault) = ⊤
