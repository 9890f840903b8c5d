-- What a prune of the shared node keeps, what it takes away, and why it is refused.
use Rattle.std.specs.Prelude.{◌≡◌, ◌⊎◌, ◌↔◌, ℕ, List, Option, Some, None, Contains}
use Rattle.vc_files.specs.FileMap.{FileMap}
use Rattle.vc_local.specs.declared.fault.NodeFault.{NodeFault}
use Rattle.vc_local.specs.declared.fault.NodeFault.TheVariants.{Store}
use Rattle.vc_object.specs.declared.id.ObjectId.{ObjectId}
use Rattle.vc_object_map.specs.Graph.{AreExactly}
use Rattle.vc_object_map.specs.declared.faults.StoreFault.{StoreFault}
use Rattle.vc_pruning.specs.Removing.{TakesAll, TakesSome}
use Rattle.vc_pruning.specs.Roots.{AreNeeded, BlamesPrune, EndsRemoval}
use Rattle.vc_push_rules.specs.Session.{SessionText}
use Rattle.vc_session.specs.Needing.{BlamesNeeded, IsNeededByPush}
use Rattle.vc_shared.specs.Slots.{slot_of}

-- the push in a slot needs the object
abbrev pub IsNeededInSlot : FileMap → Option SessionText → ObjectId → Type 0
IsNeededInSlot content None id = ⊥
IsNeededInSlot content (Some s) id = IsNeededByPush content s id

-- ---- the names that are kept
-- some were there, and what the push in a slot needs is added
pub record AddsInSlot (content : FileMap) (slot : Option SessionText) (old new : List ObjectId) : Type 0 where
  pub names : List ObjectId
  pub needed : AreExactly (IsNeededInSlot content slot) names
  pub added : (id : ObjectId) → Contains new id ↔ (Contains old id ⊎ Contains names id)

-- the same of all slots
pub record AddsBySlots (content : FileMap) (slots : List (Option SessionText)) (old new : List ObjectId) : Type 0 where
  pub by_slot : ℕ → List ObjectId
  pub needed : (k : ℕ) → AreExactly (IsNeededInSlot content (slot_of slots k)) (by_slot k)
  pub added : (id : ObjectId) → Contains new id ↔ (Contains old id ⊎ ((k : ℕ) × Contains (by_slot k) id))

-- The names are those of what the repository's own roots need, and of what the push in some slot needs.
pub record KeepsNeeded (content : FileMap) (slots : List (Option SessionText)) (kept : List ObjectId) : Type 0 where
  pub rooted : List ObjectId
  pub by_root : AreNeeded content rooted
  pub by_slots : AddsBySlots content slots rooted kept

-- ---- what goes
-- all stored objects that nothing needs, and they were so many
pub record PrunesAll (old : FileMap) (slots : List (Option SessionText)) (new : FileMap) (count : ℕ) : Type 0 where
  pub kept : List ObjectId
  pub needed : KeepsNeeded old slots kept
  pub takes : TakesAll kept old new count

-- some of them
pub record PrunesSome (old : FileMap) (slots : List (Option SessionText)) (new : FileMap) : Type 0 where
  pub kept : List ObjectId
  pub needed : KeepsNeeded old slots kept
  pub takes : TakesSome kept old new

-- a prune that ends early has changed no file; or it met a damaged object or a fault, and some of them are gone
abbrev pub EndsPrune : FileMap → List (Option SessionText) → FileMap → NodeFault → Type 0
EndsPrune old slots new e = (new ≡ old) ⊎ (EndsRemoval e × PrunesSome old slots new)

-- ---- refusals
-- what the push in a slot needs isn't found for a damaged object, or for a fault
abbrev pub BlamesSlot : FileMap → Option SessionText → NodeFault → Type 0
BlamesSlot content None e = ⊥
BlamesSlot content (Some s) e = (f : StoreFault) × (e ≡ Store f) × BlamesNeeded content s f

-- of some slot
pub record BlamesSlots (content : FileMap) (slots : List (Option SessionText)) (e : NodeFault) : Type 0 where
  pub slot : ℕ
  pub blames : BlamesSlot content (slot_of slots slot) e

-- a bad file of the refs, of HEAD or of the index, a damaged object that is stored or that an open push needs, or a fault
abbrev pub BlamesNeeds : FileMap → List (Option SessionText) → NodeFault → Type 0
BlamesNeeds content slots e = BlamesPrune content e ⊎ BlamesSlots content slots e
