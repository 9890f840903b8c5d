-- One message served to its end: the node's answer to it and, where it opened a push, the steps of that push up to its report.
use Rattle.std.specs.Global.{Global}
use Rattle.std.specs.Prelude.{◌≡◌, ◌<◌, ℕ, Bool, true, Vec, List, Option, Some, None, Result, Ok, Err}
use Rattle.vc_files.specs.FileMap.{FileMap}
use Rattle.vc_rules.specs.Told.{Quietly}
use Rattle.vc_message.specs.Told.{SendsBytes}
use Rattle.vc_model.specs.Exchange.{IsUndone, OpensNone}
use Rattle.vc_model.specs.Message.{Message}
use Rattle.vc_model.specs.Node.{Answer, Reply}
use Rattle.vc_model.specs.Node.Answer.{Did}
use Rattle.vc_model.specs.Node.Reply.{Opened}
use Rattle.vc_model.specs.Repository.{IsBare, IsSound}
use Rattle.vc_model.specs.Shared.{SharedNode, slot_count}
use Rattle.vc_model.specs.SharedCall.{SharedAnswers, SharedCall}
use Rattle.vc_model.specs.SharedCall.SharedCall.{StepOf}
use Rattle.vc_values.proofs.GitLaws.{git_rules}
use Rattle.vc_rules.specs.Git.{git}
use Rattle.vc_push_rules.specs.Session.{SessionText}
use Rattle.vc_shared.specs.Calls.{AcceptedAs, AnswersShared}
use Rattle.vc_shared.specs.Faults.{fault_answer}
use Rattle.vc_shared.specs.Holding.{HoldsShared}
use Rattle.vc_shared.specs.declared.accepting.Accepted.{Accepted}
use Rattle.vc_shared.specs.declared.fault.SharedFault.{SharedFault}
use Rattle.vc_shared.specs.declared.stepping.Stepped.{Stepped}
use Rattle.vc_shared.specs.declared.stepping.Stepped.TheVariants.{Finished}

-- one call: where the node before it was sound and bare, it is the machine's
abbrev pub MayAnswer : SharedNode → SharedCall → Answer → SharedNode → Option Message → Type 0
MayAnswer n call a t sends = IsSound git n.repository → IsBare git n.repository → SharedAnswers git git_rules n call a t sends

-- The push in the slot is stepped until a step sends something or is not done.
pub data StepsOn (slot : ℕ) : SharedNode → Answer → SharedNode → Option Message → Type 0 where
  sent : {n t : SharedNode} {a : Answer} (m : Message) → MayAnswer n (StepOf slot) a t (Some m) → StepsOn slot n a t (Some m)
  undone : {n t : SharedNode} {a : Answer} → MayAnswer n (StepOf slot) a t None → IsUndone a → StepsOn slot n a t None
  further : {n u t : SharedNode} {a : Answer} {sends : Option Message} (y : Reply) → MayAnswer n (StepOf slot) (Did y) u None → StepsOn slot u a t sends
      → StepsOn slot n a t sends

-- What comes opens no push and is answered at once, or it opens one, which is stepped to its end.
pub data ServesOn (call : SharedCall) : SharedNode → Answer → SharedNode → Option Message → Type 0 where
  at_once : {n t : SharedNode} {a : Answer} {sends : Option Message} → MayAnswer n call a t sends → OpensNone a → ServesOn call n a t sends
  stepped : {n u t : SharedNode} {a : Answer} {sends : Option Message} (slot : ℕ) → slot < slot_count → MayAnswer n call (Did (Opened slot)) u None → StepsOn slot u a t sends
      → ServesOn call n a t sends

-- the machine's last answer, as it is told: the reply's bytes, or why there is none
abbrev pub ServedAs : Result (Vec ℕ Global) SharedFault → Answer → Option Message → Type 0
ServedAs (Ok bytes) a sends = SendsBytes bytes.items a sends
ServedAs (Err e) a sends = Quietly (fault_answer e) a sends

-- Whatever node was held, some node is held at the end, the result tells the last answer, and each call on the way was the machine's
-- where the node before it was sound and bare.
pub record Serves (call : SharedCall) (result : Result (Vec ℕ Global) SharedFault) (old new : FileMap) (slots after : List (Option SessionText)) (was_up is_up : Bool) : Type 0 where
  pub each : (n : SharedNode) → HoldsShared old slots was_up n → (t : SharedNode) × (a : Answer) × (sends : Option Message) × HoldsShared new after is_up t
      × ServedAs result a sends × ServesOn call n a t sends

-- the same of the push that is open in a slot of a node that is up: it is stepped to its end
pub record StepsToEnd (slot : ℕ) (result : Result (Vec ℕ Global) SharedFault) (old new : FileMap) (slots after : List (Option SessionText)) (is_up : Bool) : Type 0 where
  pub each : (n : SharedNode) → HoldsShared old slots true n → (t : SharedNode) × (a : Answer) × (sends : Option Message) × HoldsShared new after is_up t
      × ServedAs result a sends × StepsOn slot n a t sends

-- whatever call was answered so at a node that is up then, it is served with this
pub record RepliesTo (accepted : Accepted) (result : Result (Vec ℕ Global) SharedFault) (mid new : FileMap) (mids after : List (Option SessionText)) (is_up : Bool) : Type 0 where
  pub serves : (call : SharedCall) (old : FileMap) (slots : List (Option SessionText)) (was_up mid_up : Bool) → mid_up ≡ true → AnswersShared call (AcceptedAs (Ok accepted)) old mid slots mids was_up mid_up
      → Serves call result old new slots after was_up is_up

-- the report's bytes, where the step was the last
abbrev pub report_of : Stepped → Option (Vec ℕ Global)
report_of (Finished bytes) = Some bytes
report_of _ = None
