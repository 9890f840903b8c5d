-- That what a step of a slot says of itself is the machine's answer; that what holds a node can be opened again; and that a value that was
-- set is learnt.
use Rattle.std.specs.Prelude.{◌≡◌, ℕ, Bool, true, false, List, Option, Some, Result, Err, IfOk, IfErr, OnErr, Contains, slice_get}
use Rattle.vc_files.specs.FileMap.{FileMap}
use Rattle.vc_history.specs.Numbering.{numbers}
use Rattle.vc_model.specs.Shared.{SharedNode}
use Rattle.vc_model.specs.SharedCall.SharedCall.{StepOf}
use Rattle.vc_local.specs.Opening.{IsOpenable}
use Rattle.vc_local.specs.declared.fault.NodeFault.TheVariants.{Down}
use Rattle.vc_object.specs.declared.id.ObjectId.{ObjectId}
use Rattle.vc_push.specs.Push.{CommandText}
use Rattle.vc_quarantine.specs.Clean.{MakesNoneBad}
use Rattle.vc_quarantine.specs.Learning.{IsOfWhole, Learnt}
use Rattle.vc_push_rules.specs.Session.{SessionText}
use Rattle.vc_push_rules.specs.declared.stage.Stage.TheVariants.{Done, Unpacked}
use Rattle.vc_push_rules.specs.declared.stage.Verdict.TheVariants.{Accepted}
use Rattle.vc_shared.specs.Calls.{AnswersShared, SteppedAs}
use Rattle.vc_shared.specs.Faults.{is_fault, up_after}
use Rattle.vc_shared.specs.Holding.{HoldsShared}
use Rattle.vc_shared.specs.Learning.{LearnsIn}
use Rattle.vc_shared.specs.Slots.{AreTellable, slot_of}
use Rattle.vc_shared.specs.Stepping.{EndsSlotEarly, IsHeldThere, IsRefusedIn, StepsSlot}
use Rattle.vc_shared.specs.declared.fault.SharedFault.{SharedFault}
use Rattle.vc_shared.specs.declared.fault.SharedFault.TheVariants.{Node}
use Rattle.vc_shared.specs.declared.stepping.Stepped.{Stepped}

-- of a node that is up: the step of the session is told, or why there is none, and what it leaves
abbrev pub StepsAnswer : Type 0
StepsAnswer = (old new : FileMap) (slots after : List (Option SessionText)) (k : ℕ) (was_up is_up : Bool) (result : Result Stepped SharedFault)
    → (IsHeldThere old (slot_of slots k) → IfOk result (StepsSlot old new slots after k))
    → IfErr result (λ e. is_fault e ≡ false → after ≡ slots)
    → (IsHeldThere old (slot_of slots k) → OnErr result (EndsSlotEarly old new (slot_of slots k)))
    → IfErr result (IsRefusedIn old (slot_of slots k))
    → MakesNoneBad old new → AreTellable slots
    → was_up ≡ true → is_up ≡ up_after result → AnswersShared (StepOf k) (SteppedAs result) old new slots after was_up is_up

-- of a node that is down
abbrev pub DownAnswers : Type 0
DownAnswers = (old new : FileMap) (slots after : List (Option SessionText)) (k : ℕ) (was_up is_up : Bool) (result : Result Stepped SharedFault)
    → new ≡ old → after ≡ slots → is_up ≡ was_up → was_up ≡ false → result ≡ Err (Node Down) → AnswersShared (StepOf k) (SteppedAs result) old new slots after was_up is_up

-- What holds a node can be opened as its repository, whatever pushes are open in it, and whether it is up or down.
abbrev pub HeldSharedOpen : Type 0
HeldSharedOpen = (content : FileMap) (slots : List (Option SessionText)) (is_up : Bool) (n : SharedNode) → HoldsShared content slots is_up n → IsOpenable content n.repository

-- What is learnt, of a value that a branch was set to: once its push has told the report the value is due, and the check of a later
-- push leaves each commit of its history, where that is whole and 64 bits hold the number, with its generation.
abbrev pub SetIsDue : Type 0
SetIsDue = (content : FileMap) (s : SessionText) (known now : Learnt) (k : ℕ) (c : CommandText) → s.stage ≡ Done → slice_get s.commands k ≡ Some c → slice_get s.verdicts k ≡ Some Accepted
    → LearnsIn content (Some s) known now → Contains now.due c.new

abbrev pub DueIsLearnt : Type 0
DueIsLearnt = (content : FileMap) (s : SessionText) (known now : Learnt) (x : ObjectId) (n : ℕ) → s.stage ≡ Unpacked → IsOfWhole content known.due x n
    → LearnsIn content (Some s) known now → numbers now.generations x ≡ Some n
