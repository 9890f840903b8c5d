-- What a prune does to the node.
use Rattle.std.specs.Prelude.{◌≡◌, ℕ, Bool, true, false}
use Rattle.vc_files.specs.FileMap.{FileMap}
use Rattle.vc_local.specs.declared.fault.NodeFault.{NodeFault}
use Rattle.vc_quarantine.specs.Learning.{IsNothing}
use Rattle.vc_shared.specs.Holding.{SharedText}
use Rattle.vc_shared.specs.Pruning.{EndsPrune, PrunesAll}

-- One that is down answers so and stays as it is, one that is up is up after it or not. The open pushes stay, and what was learnt is
-- forgotten.
pub record SettlesForgetting {F : Type 0} (IsDown : Type 0) (is_up : Bool) (old new : SharedText F) : Type 0 where
  pub down : old.is_up ≡ false → IsDown
  pub unchanged : old.is_up ≡ false → new ≡ old
  pub up : old.is_up ≡ true → new.is_up ≡ is_up
  pub slots : new.slots ≡ old.slots
  pub forgets : old.is_up ≡ true → IsNothing new.learnt

-- what it takes away, all of it or some
abbrev pub PrunesNode : {F : Type 0} → (F → FileMap) → SharedText F → SharedText F → ℕ → Type 0
PrunesNode content old new count = PrunesAll (content old.files) old.slots (content new.files) count

abbrev pub EndsPruneOf : {F : Type 0} → (F → FileMap) → SharedText F → SharedText F → NodeFault → Type 0
EndsPruneOf content old new e = EndsPrune (content old.files) old.slots (content new.files) e
