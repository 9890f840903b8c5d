-- What a call says of the shared node as one value: what it holds before and after, where `content` is what its files hold.
use Rattle.std.specs.Prelude.{◌≡◌, ℕ, Bool, true, false, List, Option, Some, Result, OnErr}
use Rattle.vc_files.specs.FileMap.{FileMap}
use Rattle.vc_model.specs.Message.{Message}
use Rattle.vc_model.specs.Node.{Answer}
use Rattle.std.specs.FinMap.{empty}
use Rattle.vc_model.specs.Repository.{Repository}
use Rattle.vc_model.specs.SharedCall.{SharedCall}
use Rattle.vc_quarantine.specs.Learning.{IsNothing}
use Rattle.vc_push_rules.specs.Session.{SessionText}
use Rattle.vc_shared.specs.AcceptFault.{up_after as accept_up_after}
use Rattle.vc_shared.specs.Arriving.{AcceptsFrom, AnswersKnown, KeepsHeld}
use Rattle.vc_shared.specs.Calls.{AnswersShared}
use Rattle.vc_shared.specs.Holding.{HoldsShared, SharedText}
use Rattle.vc_shared.specs.Learning.{LearnsIn}
use Rattle.vc_shared.specs.Slots.{AreTellable, free_slots, slot_of}
use Rattle.vc_shared.specs.Stepping.{EndsSlotEarly, IsHeldThere, MayWriteIn, StepsSlot}
use Rattle.vc_shared.specs.declared.accept_fault.AcceptFault.{AcceptFault}
use Rattle.vc_shared.specs.declared.accepting.Accepted.{Accepted}
use Rattle.vc_shared.specs.declared.stepping.Stepped.{Stepped}

-- One that is down answers so and stays as it is, one that is up is up after it or not, and its open pushes stay, as does what it has learnt.
pub record Settles {F : Type 0} (IsDown : Type 0) (is_up : Bool) (old new : SharedText F) : Type 0 where
  pub down : old.is_up ≡ false → IsDown
  pub unchanged : old.is_up ≡ false → new ≡ old
  pub up : old.is_up ≡ true → new.is_up ≡ is_up
  pub slots : new.slots ≡ old.slots
  pub learnt : new.learnt ≡ old.learnt

-- The same of a call that may open a push: after an error those that were open stay.
pub record SettlesTaken {F T E : Type 0} (result : Result T E) (IsDown : Type 0) (is_up : Bool) (old new : SharedText F) : Type 0 where
  pub down : old.is_up ≡ false → IsDown
  pub unchanged : old.is_up ≡ false → new ≡ old
  pub up : old.is_up ≡ true → new.is_up ≡ is_up
  pub slots : OnErr result (new.slots ≡ old.slots)
  pub tellable : AreTellable new.slots
  pub learnt : new.learnt ≡ old.learnt

-- The same of the next message of a reader: what one that is down answers is said of the message that comes.
abbrev pub SettlesNext : {F : Type 0} → Result (Option Accepted) AcceptFault → SharedText F → SharedText F → Type 0
SettlesNext result old new = SettlesTaken result (Unit {0}) (accept_up_after result) old new

-- The same of a step, which may change its slot and what is learnt.
pub record SettlesStep {F : Type 0} (IsDown : Type 0) (is_up : Bool) (old new : SharedText F) : Type 0 where
  pub down : old.is_up ≡ false → IsDown
  pub unchanged : old.is_up ≡ false → new ≡ old
  pub up : old.is_up ≡ true → new.is_up ≡ is_up

-- One that was opened: no push is open in any slot, and nothing is learnt.
pub record IsFresh {F : Type 0} (node : SharedText F) : Type 0 where
  pub free : node.slots ≡ free_slots
  pub learnt : IsNothing node.learnt

-- the node of this repository, with no push open
abbrev pub HoldsOpened : FileMap → List (Option SessionText) → Repository → Type 0
HoldsOpened content slots r = HoldsShared content slots true (record { repository = r; live = Some empty })

-- the machine's answer to a call, and the node that it leads to
abbrev pub AnswersCall : {F : Type 0} → (F → FileMap) → SharedCall → (Answer → Option Message → Type 0) → SharedText F → SharedText F → Type 0
AnswersCall content call Shows old new = AnswersShared call Shows (content old.files) (content new.files) old.slots new.slots old.is_up new.is_up

-- the next message of a reader is taken
abbrev pub AcceptsNext : {F : Type 0} → Type 0 → (F → FileMap) → Option (List ℕ) → Option (List ℕ) → SharedText F → SharedText F → Result (Option Accepted) AcceptFault → Type 0
AcceptsNext honest content before rest old new result = AcceptsFrom honest before rest (content old.files) (content new.files) old.slots new.slots old.is_up new.is_up result

abbrev pub AnswersFirst : {F : Type 0} → Type 0 → (F → FileMap) → Option (List ℕ) → Option (List ℕ) → SharedText F → SharedText F → Result (Option Accepted) AcceptFault → Type 0
AnswersFirst honest content before left old new result = AnswersKnown honest before left (content old.files) (content new.files) old.slots new.slots old.is_up new.is_up result

-- whatever node was held is held
abbrev pub KeepsNode : {F : Type 0} → (F → FileMap) → SharedText F → SharedText F → Type 0
KeepsNode content old new = KeepsHeld (content old.files) (content new.files) old.slots new.slots old.is_up new.is_up

-- the push in a slot has what it carries, its step may write, and this step was made
abbrev pub HoldsIn : {F : Type 0} → (F → FileMap) → SharedText F → ℕ → Type 0
HoldsIn content node slot = IsHeldThere (content node.files) (slot_of node.slots slot)

abbrev pub MayStep : {F : Type 0} → (F → FileMap) → SharedText F → ℕ → Type 0
MayStep content node slot = MayWriteIn (content node.files) (slot_of node.slots slot)

abbrev pub StepsIn : {F : Type 0} → (F → FileMap) → SharedText F → SharedText F → ℕ → Stepped → Type 0
StepsIn content old new slot told = StepsSlot (content old.files) (content new.files) old.slots new.slots slot told

-- what a step may leave that ends early
abbrev pub EndsIn : {F : Type 0} → (F → FileMap) → SharedText F → SharedText F → ℕ → Type 0
EndsIn content old new slot = EndsSlotEarly (content old.files) (content new.files) (slot_of old.slots slot)

-- what a step in a slot learns
abbrev pub LearnsAtStep : {F : Type 0} → (F → FileMap) → SharedText F → SharedText F → ℕ → Type 0
LearnsAtStep content old new slot = LearnsIn (content old.files) (slot_of old.slots slot) old.learnt new.learnt
