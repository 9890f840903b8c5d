-- A clone alone: its calls one after another, whoever its messages come from.
use Rattle.std.specs.Prelude.{◌≡◌, ◌⊎◌, List, [], ◌∷◌, Option}
use Rattle.std.specs.List.{AllByRecursion}
use Rattle.vc_model.specs.Object.{Format}
use Rattle.vc_model.specs.Message.{Message, IsNamedMessage}
use Rattle.vc_model.specs.Node.{Answer}
use Rattle.vc_model.specs.Clone.{CloneNode, Task}
use Rattle.vc_model.specs.Clone.Task.{StartFetch, StartPush}
use Rattle.vc_model.specs.Rules.{Rules}
use Rattle.vc_model.specs.CloneCall.{CloneCall, CloneAnswers}
use Rattle.vc_model.specs.CloneCall.CloneCall.{Command, Receive, Asks}
use Rattle.vc_model.specs.Question.Question.{Unread}

-- A call of a clone, its answer, what it sent, and the clone after it.
pub record Turn : Type 0 where
  pub call : CloneCall
  pub answer : Answer
  pub sends : Option Message
  pub node : CloneNode

-- What a clone did, the newest first.
abbrev pub Trail : Type 0
Trail = List Turn

abbrev pub clone_after : CloneNode → Trail → CloneNode
clone_after start [] = start
clone_after start (t ∷ ts) = t.node

-- Each answer is the machine's, given by the clone before it.
abbrev pub IsTrail : (fmt : Format) → Rules fmt → CloneNode → Trail → Type 0
IsTrail fmt rules start [] = Unit {0}
IsTrail fmt rules start (t ∷ ts) = CloneAnswers fmt rules (clone_after start ts) t.call t.answer t.node t.sends × IsTrail fmt rules start ts

abbrev pub IsStart : Task → Type 0
IsStart StartFetch = Unit {0}
IsStart (StartPush atomic items) = Unit {0}
IsStart _ = ⊥

-- A message, whoever sent it, whose objects stand under their own names; or bytes that are none.
abbrev pub IsBrought : Format → CloneCall → Type 0
IsBrought fmt (Receive m) = IsNamedMessage fmt m
IsBrought fmt (Asks (Unread n)) = Unit {0}
IsBrought fmt _ = ⊥

-- The start of a fetch or a push, or what is brought to the clone.
abbrev pub IsExchanged : Format → CloneCall → Type 0
IsExchanged fmt (Command t) = IsStart t
IsExchanged fmt call = IsBrought fmt call

abbrev pub IsExchangedIn : Format → Turn → Type 0
IsExchangedIn fmt t = IsExchanged fmt t.call

-- There are no other calls.
abbrev pub AreExchanged : Format → Trail → Type 0
AreExchanged fmt ts = AllByRecursion (IsExchangedIn fmt) ts

-- The message came in the trail.
abbrev pub Came : Trail → Message → Type 0
Came [] m = ⊥
Came (t ∷ ts) m = (t.call ≡ Receive m) ⊎ Came ts m
