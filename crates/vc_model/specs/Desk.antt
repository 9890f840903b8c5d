-- A run of the shared node alone, whoever its messages come from.
use Rattle.std.specs.Prelude.{◌≡◌, ℕ, List, [], ◌∷◌, ◌++◌, map, Option, Some, ◌⊎◌}
use Rattle.std.specs.FinMap.{get, empty}
use Rattle.vc_model.specs.Object.{Id, Object, Format}
use Rattle.vc_model.specs.Reach.{IsAncestorAmong}
use Rattle.vc_model.specs.Refs.{branch}
use Rattle.vc_model.specs.Repository.{IsSound, IsBare}
use Rattle.vc_model.specs.Push.{OpenPush, Slots}
use Rattle.vc_model.specs.Message.{Message, HasObject, Carries, IsNamedMessage}
use Rattle.vc_model.specs.Node.{Answer}
use Rattle.vc_model.specs.Shared.{SharedNode, SharedEvent, SharedStep}
use Rattle.vc_model.specs.Shared.SharedEvent.{Arrives}
use Rattle.vc_model.specs.Safe.{ClosedUnderRefs}
use Rattle.vc_model.specs.Rules.{Rules, Tests, rules_by}
use Rattle.vc_model.specs.SharedCall.{SharedCall, SharedAnswers}
use Rattle.vc_model.specs.Exact.{shared_event}

-- An event, its answer, what was sent, and the node after it.
pub record Served : Type 0 where
  pub event : SharedEvent
  pub answer : Answer
  pub sends : Option Message
  pub node : SharedNode

-- What was served, the newest first.
abbrev pub Log : Type 0
Log = List Served

abbrev pub node_after : SharedNode → Log → SharedNode
node_after start [] = start
node_after start (e ∷ es) = e.node

-- A message that arrives has its objects under their own names.
abbrev pub IsWell : Format → SharedEvent → Type 0
IsWell fmt (Arrives m) = IsNamedMessage fmt m
IsWell fmt _ = Unit {0}

abbrev pub IsServed : Format → SharedNode → Log → Type 0
IsServed fmt start [] = Unit {0}
IsServed fmt start (e ∷ es) = IsWell fmt e.event × SharedStep fmt (node_after start es) e.event e.answer e.node e.sends × IsServed fmt start es

-- The object is stored at the node, or carried by one of its open pushes.
pub data IsAt (n : SharedNode) (o : Object) : Type 0 where
  in_store : HasObject n.repository.objects o → IsAt n o
  in_push : (slots : Slots) (s : ℕ) (p : OpenPush) → n.live ≡ Some slots → get slots s ≡ Some p → HasObject p.carried o → IsAt n o

-- The event brings the object.
abbrev pub IsBrought : SharedEvent → Object → Type 0
IsBrought (Arrives m) o = Carries m o
IsBrought _ o = ⊥

-- The object was at the node at some moment, or came by a message.
abbrev pub WasThere : SharedNode → Log → Object → Type 0
WasThere start [] o = IsAt start o
WasThere start (e ∷ es) o = IsAt e.node o ⊎ (IsBrought e.event o ⊎ WasThere start es o)

-- No two different ones have one name.
abbrev pub NoneCollide : Format → SharedNode → Log → Type 0
NoneCollide fmt start es = (o p : Object) → WasThere start es o → WasThere start es p → fmt.name_of o ≡ fmt.name_of p → o ≡ p

-- A sound node with no push open.
pub record OpensSound (fmt : Format) (n : SharedNode) : Type 0 where
  pub sound : IsSound fmt n.repository
  pub bare : IsBare fmt n.repository
  pub idle : (slots : Slots) → n.live ≡ Some slots → slots ≡ empty

-- At each moment the node is closed under its refs and HEAD.
abbrev pub DeskClosed : Type 0
DeskClosed = (fmt : Format) (start : SharedNode) (late early : Log) → OpensSound fmt start → IsServed fmt start (late ++ early) → NoneCollide fmt start (late ++ early) →
    ClosedUnderRefs fmt (node_after start early).repository

-- A branch that has a value has one at every later moment, of which the first is an ancestor.
abbrev pub DeskForward : Type 0
DeskForward = (fmt : Format) (start : SharedNode) (late early : Log) (b : List ℕ) (x : Id) → OpensSound fmt start → IsServed fmt start (late ++ early) → NoneCollide fmt start (late ++ early) →
    get (node_after start early).repository.refs (branch b) ≡ Some x →
    (y : Id) × (get (node_after start (late ++ early)).repository.refs (branch b) ≡ Some y) × IsAncestorAmong fmt (WasThere start (late ++ early)) x y

-- ---- the log exactly

-- A call, its answer, what was sent, and the node after it.
pub record Receipt : Type 0 where
  pub call : SharedCall
  pub answer : Answer
  pub sends : Option Message
  pub node : SharedNode

-- What was answered, the newest first.
abbrev pub ExactLog : Type 0
ExactLog = List Receipt

abbrev pub node_left : SharedNode → ExactLog → SharedNode
node_left start [] = start
node_left start (e ∷ es) = e.node

-- Each answer is the exact one, and a message that comes has its objects under their own names.
abbrev pub IsAnswered : (fmt : Format) → Rules fmt → SharedNode → ExactLog → Type 0
IsAnswered fmt rules start [] = Unit {0}
IsAnswered fmt rules start (e ∷ es) =
    IsWell fmt (shared_event e.call) × SharedAnswers fmt rules (node_left start es) e.call e.answer e.node e.sends × IsAnswered fmt rules start es

abbrev pub served : Receipt → Served
served e = record { event = shared_event e.call; answer = e.answer; sends = e.sends; node = e.node }

-- An exact log is a log of the machine, with the same answers, messages and nodes; so what holds of each log holds of it.
abbrev pub ExactLogIsLog : Type 0
ExactLogIsLog = (fmt : Format) (tests : Tests fmt) (start : SharedNode) (es : ExactLog) → IsAnswered fmt (rules_by fmt tests) start es → IsServed fmt start (map served es)
