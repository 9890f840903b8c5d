-- The writes left at a node, once a stop set them: so many stored writes pass, and the next fails.
use Rattle.std.specs.Prelude.{◌≡◌, ◌≢◌, ℕ, ◌-◌, ◌≤◌, Bool, true, IsTrue, List, Contains, length, Option, Some, None, ◌⊎◌}
use Rattle.std.specs.FinMap.{FinMap, get, insert, remove}
use Rattle.std.specs.Ordering.{nat_cmp}
use Rattle.vc_model.specs.Object.{Id, Format}
use Rattle.vc_model.specs.Refs.{RefName}
use Rattle.vc_model.specs.Repository.{Repository, no_effect}
use Rattle.vc_model.specs.Push.{OpenPush, Slots}
use Rattle.vc_model.specs.Push.Stage.{Finished}
use Rattle.vc_model.specs.Message.Message.{Pack, Push}
use Rattle.vc_model.specs.Node.{Answer, Deed}
use Rattle.vc_model.specs.Node.Answer.{Fault}
use Rattle.vc_model.specs.Node.Failure.{Device}
use Rattle.vc_model.specs.Shared.{StepsSlot}
use Rattle.vc_model.specs.Clone.{Awaited, Receives}
use Rattle.vc_model.specs.Clone.Awaited.{APack}
use Rattle.vc_model.specs.Rules.{Rules}
use Rattle.vc_model.specs.Question.Question.{Unread, PackRefs}
use Rattle.vc_model.specs.SharedCall.{SharedCall}
use Rattle.vc_model.specs.SharedCall.SharedCall.{Accept, StepOf, Asks, Prune}
use Rattle.vc_model.specs.CloneCall.{CloneCall, Obeys}
use Rattle.vc_model.specs.CloneCall.CloneCall.{Command, Receive, Asks as AsksClone, Prune as PruneClone}

-- nothing where no stop set it
abbrev pub Fuse : Type 0
Fuse = Option ℕ

-- What a call of the shared node may want to write: what it stores, prunes or packs, and a push's quarantine.
abbrev pub SharedWrites : Format → Repository → Slots → SharedCall → Type 0
SharedWrites fmt r slots (Accept (Push atomic fault commands objects)) = Unit {0}
SharedWrites fmt r slots (StepOf s) =
    ((p : OpenPush) × (get slots s ≡ Some p) × (p.stage ≡ Finished)) ⊎ ((d : Deed Slots) × StepsSlot fmt r slots s d × (d.effect ≢ no_effect))
SharedWrites fmt r slots (Asks (Unread n)) = Unit {0}
SharedWrites fmt r slots (Asks PackRefs) = Unit {0}
SharedWrites fmt r slots Prune = Unit {0}
SharedWrites fmt r slots _ = ⊥

-- The same of a clone's, with the quarantine of a pack that is awaited.
abbrev pub CloneWrites : (fmt : Format) → Rules fmt → Repository → Awaited → CloneCall → Type 0
CloneWrites fmt rules r a (Command t) = (d : Deed Awaited) × Obeys fmt rules r a t d × (d.effect ≢ no_effect)
CloneWrites fmt rules r (APack wants refs) (Receive (Pack ack s)) = Unit {0}
CloneWrites fmt rules r a (Receive m) = (d : Deed Awaited) × Receives fmt r a m d × (d.effect ≢ no_effect)
CloneWrites fmt rules r a (AsksClone (Unread n)) = Unit {0}
CloneWrites fmt rules r a (AsksClone PackRefs) = Unit {0}
CloneWrites fmt rules r a PruneClone = Unit {0}
CloneWrites fmt rules r a _ = ⊥

-- A place that a write may change.
pub data Place : Type 0 where
  AnObject : Id → Place
  ARef : RefName → Place
  -- all refs of an atomic push, which are set by one write
  TheRefs : Place
  TheHead : Place
  TheIndex : Place

-- The repositories differ at no other places.
pub record DiffersAt (places : List Place) (old new : Repository) : Type 0 where
  pub objects : (x : Id) → (get new.objects x ≡ get old.objects x) ⊎ Contains places (AnObject x)
  pub refs : (n : RefName) → (get new.refs n ≡ get old.refs n) ⊎ (Contains places (ARef n) ⊎ Contains places TheRefs)
  pub head : (new.head ≡ old.head) ⊎ Contains places TheHead
  pub index : (new.index ≡ old.index) ⊎ Contains places TheIndex

-- So many writes suffice for the change: one at each place. Only where refs are set together one write sets them all.
abbrev pub WritesSuffice : (together : Type 0) → ℕ → Repository → Repository → Type 0
WritesSuffice together writes old new = (places : List Place) × (length places ≤ writes) × (Contains places TheRefs → together) × DiffersAt places old new

-- The step sets all refs of a push as one.
abbrev pub SetsTogether : Slots → SharedCall → Type 0
SetsTogether slots (StepOf s) = (p : OpenPush) × (get slots s ≡ Some p) × (p.atomic ≡ true)
SetsTogether slots _ = ⊥

-- With this fuse before it, a call that may write, or may not, ends with this answer and this fuse. A frail device may fail at any
-- time; another one only where a stop set the writes left, and the call wanted a write when none was left.
abbrev pub Burns : (frail : Bool) → Fuse → (may together : Type 0) → Repository → Repository → Answer → Fuse → Type 0
Burns frail None may together old new a after = (a ≡ Fault Device → IsTrue frail) × (after ≡ None)
Burns frail (Some writes) may together old new a after =
    (k : ℕ) × (k ≤ writes) × ((¬ may) → k ≡ 0) × WritesSuffice together k old new × (after ≡ Some (writes - k))
    × (a ≡ Fault Device → IsTrue frail ⊎ (may × (k ≡ writes)))

abbrev pub Fuses : Type 0
Fuses = FinMap nat_cmp ℕ

abbrev pub with_fuse : Fuses → ℕ → Fuse → Fuses
with_fuse fuses c (Some writes) = insert fuses c writes
with_fuse fuses c None = remove fuses c
