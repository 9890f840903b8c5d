-- The machine's shared node that files and open pushes hold.
use Rattle.std.specs.Prelude.{◌≡◌, ◌<◌, ◌≤◌, ℕ, Bool, true, false, List, length, Option, Some, None}
use Rattle.std.specs.FinMap.{get}
use Rattle.vc_files.specs.FileMap.{FileMap}
use Rattle.vc_history.specs.Stored.{KeepsObjects}
use Rattle.vc_model.specs.Push.{OpenPush, Slots}
use Rattle.vc_model.specs.Shared.{SharedNode, slot_count}
use Rattle.vc_local.specs.Clean.{IsClean}
use Rattle.vc_local.specs.Machine.{Spells}
use Rattle.vc_local.specs.Shown.{shown}
use Rattle.vc_rules.specs.OpenPushes.{HoldsPush}
use Rattle.vc_quarantine.specs.Clean.{IsQuarantineClean, MakesNoneBad}
use Rattle.vc_quarantine.specs.Learning.{Learnt}
use Rattle.vc_push_rules.specs.Quarantine.{IsDropped}
use Rattle.vc_push_rules.specs.Session.{SessionText}
use Rattle.vc_shared.specs.Slots.{slot_of}

-- what a shared node is made of
pub record SharedText (F : Type 0) : Type 0 where
  pub files : F
  -- the push in each of its slots
  pub slots : List (Option SessionText)
  pub is_up : Bool
  -- what it has learnt of the generations of commits
  pub learnt : Learnt

-- A slot is the machine's: no push is open and its quarantine is empty, or the push and what stands there are the machine's push.
abbrev pub HoldsSlot : FileMap → ℕ → Option SessionText → Option OpenPush → Type 0
HoldsSlot content k None None = IsDropped k content
HoldsSlot content k (Some s) (Some p) = (s.slot ≡ k) × HoldsPush content s p × IsQuarantineClean content k
HoldsSlot content k _ _ = ⊥

pub record HoldsSlots (content : FileMap) (slots : List (Option SessionText)) (pushes : Slots) : Type 0 where
  pub eight : length slots ≡ slot_count
  pub each : (k : ℕ) → k < slot_count → HoldsSlot content k (slot_of slots k) (get pushes k)
  pub others : (k : ℕ) → slot_count ≤ k → get pushes k ≡ None

-- a node that is up has its pushes open, and one that is down has none
abbrev pub IsLive : FileMap → List (Option SessionText) → Bool → Option Slots → Type 0
IsLive content slots true (Some pushes) = HoldsSlots content slots pushes
IsLive content slots false None = Unit {0}
IsLive content slots _ _ = ⊥

-- The node of the machine that is held: its repository is shown, by clean files, and its pushes are open.
pub record HoldsShared (content : FileMap) (slots : List (Option SessionText)) (is_up : Bool) (n : SharedNode) : Type 0 where
  pub spells : Spells (shown content) n.repository
  pub clean : IsClean content
  pub live : IsLive content slots is_up n.live

-- each object that was stored is stored, and no file is made bad
pub record KeepsGood (old new : FileMap) : Type 0 where
  pub objects : KeepsObjects old new
  pub bad : MakesNoneBad old new
