-- What the shared node answers to each call, exactly.
use Rattle.std.specs.Prelude.{◌≡◌, ◌≢◌, ℕ, Option, Some, None}
use Rattle.std.specs.FinMap.{get, empty}
use Rattle.vc_model.specs.Object.{Format}
use Rattle.vc_model.specs.Repository.{Repository}
use Rattle.vc_model.specs.Push.{Slots}
use Rattle.vc_model.specs.Message.{Message}
use Rattle.vc_model.specs.Node.{Answer, Failure, Deed, Ends, sent_by, PruneEnds, RestartEnds}
use Rattle.vc_model.specs.Node.Answer.{Declined, Fault}
use Rattle.vc_model.specs.Shared.{SharedNode, Serves, ServesNot, StepsSlot, IsNeeded}
use Rattle.vc_model.specs.Rules.{Rules}
use Rattle.vc_model.specs.Question.{Question, Tells}

-- A call of the shared node.
pub data SharedCall : Type 0 where
  Accept : Message → SharedCall
  StepOf : (slot : ℕ) → SharedCall
  Asks : Question → SharedCall
  Prune : SharedCall
  Open : SharedCall

-- The call is refused with this number.
abbrev pub SharedRefuses : Format → Repository → Slots → SharedCall → ℕ → Type 0
SharedRefuses fmt r slots (Accept m) n = ServesNot fmt r slots m n
SharedRefuses fmt r slots (StepOf s) n = (n ≡ 111) × (get slots s ≡ None)
SharedRefuses fmt r slots _ n = ⊥

abbrev pub SharedObeys : Format → Repository → Slots → SharedCall → Deed Slots → Type 0
SharedObeys fmt r slots (Accept m) d = Serves fmt r slots m d
SharedObeys fmt r slots (StepOf s) d = StepsSlot fmt r slots s d
SharedObeys fmt r slots _ d = ⊥

-- The shared node's answer to the call, the node after it, and what it sends to whom the call serves.
pub data SharedAnswers (fmt : Format) (rules : Rules fmt) (old : SharedNode) (e : SharedCall) (a : Answer) (new : SharedNode) (sends : Option Message) : Type 0 where
  down : old.live ≡ None → e ≢ Open → a ≡ Declined 112 → new ≡ old → sends ≡ None → SharedAnswers fmt rules old e a new sends
  asked : (w : Slots) (q : Question) → old.live ≡ Some w → e ≡ Asks q → Tells fmt rules old.repository q a → new ≡ old → sends ≡ None → SharedAnswers fmt rules old e a new sends
  refused : (w : Slots) (n : ℕ) → old.live ≡ Some w → SharedRefuses fmt old.repository w e n → a ≡ Declined n → new ≡ old → sends ≡ None → SharedAnswers fmt rules old e a new sends
  obeyed : (w : Slots) (d : Deed Slots) → old.live ≡ Some w → SharedObeys fmt old.repository w e d → Ends a old d new → sends ≡ sent_by a d → SharedAnswers fmt rules old e a new sends
  pruned : (w : Slots) → old.live ≡ Some w → e ≡ Prune → PruneEnds a (IsNeeded fmt old.repository w) old new → sends ≡ None → SharedAnswers fmt rules old e a new sends
  opened : e ≡ Open → RestartEnds a old empty new → sends ≡ None → SharedAnswers fmt rules old e a new sends
  -- a fault before anything was done
  faulted : (w : Slots) (f : Failure) → old.live ≡ Some w → e ≢ Open → a ≡ Fault f → new ≡ record { repository = old.repository; live = None } → sends ≡ None → SharedAnswers fmt rules old e a new sends
