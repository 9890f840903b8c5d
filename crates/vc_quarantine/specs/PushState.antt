-- The state that the objects a push sees are read from: all that a call on them could change.
use Rattle.std.specs.Prelude.{ℕ, ◌⊎◌}
use Rattle.vc_files.specs.FileMap.{FileMap}
use Rattle.vc_object.specs.declared.id.ObjectId.{ObjectId}
use Rattle.vc_object_map.specs.Store.{IsDamaged}
use Rattle.vc_push_rules.specs.Quarantine.{IsDamagedThere}

-- the reference by which the files were lent, the files, and the slot
pub record SeenState : Type 0 where
  pub lender : ℕ
  pub content : FileMap
  pub slot : ℕ

abbrev pub seen_state : ℕ → FileMap → ℕ → SeenState
seen_state lender content slot = record { lender = lender; content = content; slot = slot }

-- a file of that name is damaged, in the store or in the quarantine
abbrev pub IsDamagedSeen : FileMap → ℕ → ObjectId → Type 0
IsDamagedSeen content slot id = IsDamaged content id ⊎ IsDamagedThere content slot id
