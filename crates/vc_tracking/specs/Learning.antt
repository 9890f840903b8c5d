-- What a clone learns of the generations of commits when a message comes, and whose histories are due then.
use Rattle.std.specs.Prelude.{◌≡◌, ◌⊎◌, ◌+◌, ◌++◌, [], ℕ, List, Some, Result, IfOk, Contains, length}
use Rattle.vc_files.specs.FileMap.{FileMap}
use Rattle.vc_object.specs.declared.id.ObjectId.{ObjectId}
use Rattle.vc_refs.specs.RefMap.{RefMap}
use Rattle.vc_refs.specs.Refs.{refs}
use Rattle.vc_quarantine.specs.Learning.{IsLearnt, Learnt}
use Rattle.vc_tracking.specs.declared.fault.ExchangeFault.{ExchangeFault}

-- the histories that were due are learnt, and due no longer
abbrev pub LearnsDue : FileMap → Learnt → Learnt → Type 0
LearnsDue content known now = IsLearnt content known.due known.generations now.generations × (now.due ≡ [])

-- each value that a ref has then and had not before is due
abbrev pub AreDue : RefMap → RefMap → List ObjectId → Type 0
AreDue old new due = (name : List ℕ) (id : ObjectId) → new name ≡ Some id → (old name ≡ Some id) ⊎ Contains due id

-- Beside what was due these are, and among them each value that a ref has then and had not before.
pub record AreNoted (old new : RefMap) (due now : List ObjectId) : Type 0 where
  pub set : List ObjectId
  pub beside : now ≡ due ++ set
  pub each : AreDue old new set

-- and they are as many as refs moved
pub record NotesMoved (old new : FileMap) (due now : List ObjectId) (result : Result ℕ ExchangeFault) : Type 0 where
  pub noted : AreNoted (refs old) (refs new) due now
  pub counted : IfOk result (λ moved. length now ≡ length due + moved)
