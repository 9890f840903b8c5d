-- Exchanges as their calls tell of them: a fetch, round by round, and a push, where each answer is the machine's if the node before
-- it was sound, and the shared node bare.
use Rattle.std.specs.Prelude.{◌≡◌, ◌≢◌, ◌+◌, ℕ, Bool, List, Option, Some, None}
use Rattle.vc_model.specs.Object.{Format}
use Rattle.vc_model.specs.Repository.{IsBare, IsSound}
use Rattle.vc_model.specs.Message.{Message}
use Rattle.vc_model.specs.Node.{Answer, Reply}
use Rattle.vc_model.specs.Node.Answer.{Did}
use Rattle.vc_model.specs.Node.Reply.{Moved, Opened}
use Rattle.vc_model.specs.Shared.{SharedNode}
use Rattle.vc_model.specs.Clone.{CloneNode, PushItem}
use Rattle.vc_model.specs.Clone.Task.{StartFetch, StartPush}
use Rattle.vc_model.specs.Rules.{Rules}
use Rattle.vc_model.specs.SharedCall.{SharedAnswers, SharedCall}
use Rattle.vc_model.specs.SharedCall.SharedCall.{Accept, StepOf}
use Rattle.vc_model.specs.CloneCall.{CloneAnswers, CloneCall}
use Rattle.vc_model.specs.CloneCall.CloneCall.{Command, Receive}
use Rattle.vc_model.specs.Exchange.{FetchRound, IsFewer, IsLast, IsUndone, OpensNone}

-- ---- one call

abbrev pub CloneMayAnswer : (fmt : Format) → Rules fmt → CloneNode → CloneCall → Answer → CloneNode → Option Message → Type 0
CloneMayAnswer fmt rules c call a d sends = IsSound fmt c.repository → CloneAnswers fmt rules c call a d sends

abbrev pub SharedMayAnswer : (fmt : Format) → Rules fmt → SharedNode → SharedCall → Answer → SharedNode → Option Message → Type 0
SharedMayAnswer fmt rules s call a t sends = IsSound fmt s.repository → IsBare fmt s.repository → SharedAnswers fmt rules s call a t sends

-- The clone sends this message, and becomes d.
abbrev pub CloneMaySend : (fmt : Format) → Rules fmt → CloneNode → CloneCall → CloneNode → Message → Type 0
CloneMaySend fmt rules c call d m = (b : Answer) × CloneMayAnswer fmt rules c call b d (Some m)

-- ---- one message at the shared node, with the steps of the push that it opened

-- The push in the slot is stepped until a step sends something or is not done.
pub data MayStep (fmt : Format) (rules : Rules fmt) (slot : ℕ) : SharedNode → Answer → SharedNode → Option Message → Type 0 where
  sent : {s t : SharedNode} {a : Answer} (m : Message) → SharedMayAnswer fmt rules s (StepOf slot) a t (Some m) → MayStep fmt rules slot s a t (Some m)
  undone : {s t : SharedNode} {a : Answer} → SharedMayAnswer fmt rules s (StepOf slot) a t None → IsUndone a → MayStep fmt rules slot s a t None
  further : {s t u : SharedNode} {a : Answer} {sends : Option Message} (y : Reply) → SharedMayAnswer fmt rules s (StepOf slot) (Did y) u None → MayStep fmt rules slot u a t sends
      → MayStep fmt rules slot s a t sends

-- The message is answered at once, or it opens a push and that is stepped.
pub data MayServe (fmt : Format) (rules : Rules fmt) (m : Message) (s : SharedNode) (a : Answer) (t : SharedNode) (sends : Option Message) : Type 0 where
  at_once : SharedMayAnswer fmt rules s (Accept m) a t sends → OpensNone a → MayServe fmt rules m s a t sends
  stepped : (u : SharedNode) (slot : ℕ) → SharedMayAnswer fmt rules s (Accept m) (Did (Opened slot)) u None → MayStep fmt rules slot u a t sends → MayServe fmt rules m s a t sends

-- The shared node answers the message with another, and becomes t.
abbrev pub SharedMaySend : (fmt : Format) → Rules fmt → SharedNode → Message → SharedNode → Message → Type 0
SharedMaySend fmt rules s asked t m = (b : Answer) × MayServe fmt rules asked s b t (Some m)

-- ---- a fetch

-- A round of a fetch, by the call at which it ends.
pub data MayRound (fmt : Format) (rules : Rules fmt) (s : SharedNode) (c : CloneNode) (a : Answer) (t : SharedNode) (d : CloneNode) : Type 0 where
  unasked : CloneMayAnswer fmt rules c (Command StartFetch) a d None → t ≡ s → MayRound fmt rules s c a t d
  unlisted : (list : Message) → CloneMaySend fmt rules c (Command StartFetch) d list → MayServe fmt rules list s a t None → MayRound fmt rules s c a t d
  advertised : (e : CloneNode) (list advert : Message) → CloneMaySend fmt rules c (Command StartFetch) e list → SharedMaySend fmt rules s list t advert
      → CloneMayAnswer fmt rules e (Receive advert) a d None → MayRound fmt rules s c a t d
  unpacked : (e : CloneNode) (u : SharedNode) (list advert want : Message) → CloneMaySend fmt rules c (Command StartFetch) e list → SharedMaySend fmt rules s list u advert
      → CloneMaySend fmt rules e (Receive advert) d want → MayServe fmt rules want u a t None → MayRound fmt rules s c a t d
  packed : (e f : CloneNode) (u : SharedNode) (list advert want pack : Message) (sends : Option Message) → CloneMaySend fmt rules c (Command StartFetch) e list
      → SharedMaySend fmt rules s list u advert → CloneMaySend fmt rules e (Receive advert) f want → SharedMaySend fmt rules u want t pack
      → CloneMayAnswer fmt rules f (Receive pack) a d sends → MayRound fmt rules s c a t d

-- The rest of a round, from the clone's want on.
pub data MayRest (fmt : Format) (rules : Rules fmt) (want : Message) (s : SharedNode) (c : CloneNode) (a : Answer) (t : SharedNode) (d : CloneNode) : Type 0 where
  unpacked : MayServe fmt rules want s a t None → d ≡ c → MayRest fmt rules want s c a t d
  packed : (pack : Message) (sends : Option Message) → SharedMaySend fmt rules s want t pack → CloneMayAnswer fmt rules c (Receive pack) a d sends → MayRest fmt rules want s c a t d

-- how many refs moved by this answer
abbrev pub moved_by : Answer → ℕ
moved_by (Did (Moved n left)) = n
moved_by a = 0

-- Rounds, one after another, the first after one that left so many, and how many refs moved in all of them.
pub data InRounds (Round : SharedNode → CloneNode → Answer → SharedNode → CloneNode → Type 0) : Option ℕ → SharedNode → CloneNode → Answer → SharedNode → CloneNode → ℕ → Type 0 where
  last : {before : Option ℕ} {s t : SharedNode} {c d : CloneNode} {a : Answer} → Round s c a t d → IsLast before a → InRounds Round before s c a t d (moved_by a)
  again : {before : Option ℕ} {s t u : SharedNode} {c d e : CloneNode} {a : Answer} {moved : ℕ} (n left : ℕ) → Round s c (Did (Moved n left)) u e
      → left ≢ 0 → IsFewer before left → InRounds Round (Some left) u e a t d moved → InRounds Round before s c a t d (n + moved)

-- a fetch as its calls tell of it
abbrev pub MayFetch : (fmt : Format) → Rules fmt → Option ℕ → SharedNode → CloneNode → Answer → SharedNode → CloneNode → ℕ → Type 0
MayFetch fmt rules before s c a t d moved = InRounds (MayRound fmt rules) before s c a t d moved

-- the machine's fetch, with how many refs it moved
abbrev pub FetchMoves : (fmt : Format) → Rules fmt → Option ℕ → SharedNode → CloneNode → Answer → SharedNode → CloneNode → ℕ → Type 0
FetchMoves fmt rules before s c a t d moved = InRounds (FetchRound fmt rules) before s c a t d moved

-- ---- a push

-- A push, by the call at which it ends, and the report that came to the clone, if one did.
pub data MayPushRun (fmt : Format) (rules : Rules fmt) (atomic : Bool) (items : List PushItem) (s : SharedNode) (c : CloneNode) (a : Answer) (t : SharedNode) (d : CloneNode) (report : Option Message) : Type 0 where
  unsent : CloneMayAnswer fmt rules c (Command (StartPush atomic items)) a d None → t ≡ s → report ≡ None → MayPushRun fmt rules atomic items s c a t d report
  unreported : (push : Message) → CloneMaySend fmt rules c (Command (StartPush atomic items)) d push → MayServe fmt rules push s a t None
      → report ≡ None → MayPushRun fmt rules atomic items s c a t d report
  reported : (e : CloneNode) (push told : Message) (sends : Option Message) → CloneMaySend fmt rules c (Command (StartPush atomic items)) e push
      → SharedMaySend fmt rules s push t told → CloneMayAnswer fmt rules e (Receive told) a d sends
      → report ≡ Some told → MayPushRun fmt rules atomic items s c a t d report
