-- An exchange between a clone and the shared node, whole: the rounds of a fetch, and a push; and what it ends with between good nodes.
use Rattle.std.specs.Prelude.{◌≡◌, ◌≢◌, ℕ, ◌<◌, Bool, List, [], ◌∷◌, Option, Some, None, Ok, IsTrue, length, ◌⊎◌}
use Rattle.std.specs.FinMap.{get, entries}
use Rattle.vc_model.specs.Object.{Id, zero_id, Object, Format, stored}
use Rattle.vc_model.specs.Reach.{IsClosed, IsAncestor}
use Rattle.vc_model.specs.Refs.{Refs, branch, tracking, IsFree}
use Rattle.vc_model.specs.Repository.{Repository}
use Rattle.vc_model.specs.Push.{Slots}
use Rattle.vc_model.specs.Message.{Message, HasObject}
use Rattle.vc_model.specs.Message.Message.{Report}
use Rattle.vc_model.specs.Node.{Answer, Failure, Reply}
use Rattle.vc_model.specs.Node.Answer.{Did, Fault}
use Rattle.vc_model.specs.Node.Reply.{Opened, Moved, Reported}
use Rattle.vc_model.specs.Shared.{SharedNode, slot_count}
use Rattle.vc_model.specs.Clone.{CloneNode, PushItem, AreOpen, IsGoodCommit}
use Rattle.vc_model.specs.Clone.Task.{StartFetch, StartPush}
use Rattle.vc_model.specs.Rules.{Rules, Tests, rules_by}
use Rattle.vc_model.specs.SharedCall.{SharedCall, SharedAnswers}
use Rattle.vc_model.specs.SharedCall.SharedCall.{Accept, StepOf}
use Rattle.vc_model.specs.CloneCall.{CloneCall, CloneAnswers}
use Rattle.vc_model.specs.CloneCall.CloneCall.{Command, Receive}
use Rattle.vc_model.specs.Good.{IsGood, IsGoodShared}

-- ---- what an exchange begins with

-- A branch that a push may set can be tracked: its tracking name is as good.
abbrev pub BranchesCanBeTracked : Format → Type 0
BranchesCanBeTracked fmt = (b : List ℕ) → IsTrue (fmt.is_legal (branch b)) → IsTrue (fmt.is_legal (tracking b))

-- No two different objects, one stored at each node, have one name.
pub record NodesAgree (fmt : Format) (s c : Repository) : Type 0 where
  pub unique : (o p : Object) → HasObject s.objects o → HasObject c.objects p → fmt.name_of o ≡ fmt.name_of p → o ≡ p

-- Each tracking ref belongs to a branch of the shared node, and its value is the branch's or lies before it.
pub record IsBehind (fmt : Format) (s : Repository) (refs : Refs) : Type 0 where
  pub each : (b : List ℕ) (u : Id) → get refs (tracking b) ≡ Some u →
      (x : Id) × (get s.refs (branch b) ≡ Some x) × IsAncestor fmt (stored s.objects) u x × IsClosed fmt (stored s.objects) u

-- The shared node and a clone are good, they agree on objects, and the clone is behind.
pub record AreReady (fmt : Format) (rules : Rules fmt) (s : SharedNode) (c : CloneNode) : Type 0 where
  pub shared : IsGoodShared fmt rules s
  pub clone : IsGood fmt rules c.repository
  pub agree : NodesAgree fmt s.repository c.repository
  pub behind : IsBehind fmt s.repository c.repository.refs

abbrev pub AreUp : SharedNode → CloneNode → Type 0
AreUp s c = (s.live ≢ None) × (c.live ≢ None)

-- ---- one message

-- The clone sends this message, and becomes d.
abbrev pub CloneSends : (fmt : Format) → Rules fmt → CloneNode → CloneCall → CloneNode → Message → Type 0
CloneSends fmt rules c call d m = (b : Answer) × CloneAnswers fmt rules c call b d (Some m)

abbrev pub SharedSends : (fmt : Format) → Rules fmt → SharedNode → SharedCall → SharedNode → Message → Type 0
SharedSends fmt rules s call t m = (b : Answer) × SharedAnswers fmt rules s call b t (Some m)

-- ---- a fetch

-- A round of a fetch, by the call at which it ends: what one node sends comes to the other, and the first answer that sends
-- nothing is the round's.
pub data FetchRound (fmt : Format) (rules : Rules fmt) (s : SharedNode) (c : CloneNode) (a : Answer) (t : SharedNode) (d : CloneNode) : Type 0 where
  unasked : CloneAnswers fmt rules c (Command StartFetch) a d None → t ≡ s → FetchRound fmt rules s c a t d
  unlisted : (list : Message) → CloneSends fmt rules c (Command StartFetch) d list → SharedAnswers fmt rules s (Accept list) a t None → FetchRound fmt rules s c a t d
  advertised : (e : CloneNode) (list advert : Message) → CloneSends fmt rules c (Command StartFetch) e list → SharedSends fmt rules s (Accept list) t advert
      → CloneAnswers fmt rules e (Receive advert) a d None → FetchRound fmt rules s c a t d
  unpacked : (e : CloneNode) (u : SharedNode) (list advert want : Message) → CloneSends fmt rules c (Command StartFetch) e list → SharedSends fmt rules s (Accept list) u advert
      → CloneSends fmt rules e (Receive advert) d want → SharedAnswers fmt rules u (Accept want) a t None → FetchRound fmt rules s c a t d
  packed : (e f : CloneNode) (u : SharedNode) (list advert want pack : Message) (sends : Option Message) → CloneSends fmt rules c (Command StartFetch) e list
      → SharedSends fmt rules s (Accept list) u advert → CloneSends fmt rules e (Receive advert) f want → SharedSends fmt rules u (Accept want) t pack
      → CloneAnswers fmt rules f (Receive pack) a d sends → FetchRound fmt rules s c a t d

-- So many ids of the shared node's refs are not closed at the clone.
abbrev pub IsLeft : Format → Repository → Repository → ℕ → Type 0
IsLeft fmt s c n = (ids : List Id) × AreOpen fmt (stored c.objects) [] (entries s.refs) ids × (n ≡ length ids)

-- For each branch of the shared node the clone has a tracking ref equal to it.
abbrev pub IsCaughtUp : Repository → Repository → Type 0
IsCaughtUp s c = (b : List ℕ) (x : Id) → get s.refs (branch b) ≡ Some x → get c.refs (tracking b) ≡ Some x

-- What a round ends with: refs moved, and fewer are left than were where any were; or a fault.
pub data RoundEnds (fmt : Format) (s c : Repository) (a : Answer) (t : SharedNode) (d : CloneNode) : Type 0 where
  moved : (n left : ℕ) → a ≡ Did (Moved n left) → AreUp t d → IsLeft fmt s d.repository left
      → ((before : ℕ) → IsLeft fmt s c before → before ≢ 0 → left < before) → (left ≡ 0 → IsCaughtUp s d.repository) → RoundEnds fmt s c a t d
  failed : (f : Failure) → a ≡ Fault f → RoundEnds fmt s c a t d

-- A round between nodes that are ready and up is never refused; it leaves them ready and the shared node's repository as it was.
abbrev pub RoundEndsWell : Type 0
RoundEndsWell = (fmt : Format) (tests : Tests fmt) (s t : SharedNode) (c d : CloneNode) (a : Answer) →
    BranchesCanBeTracked fmt → AreReady fmt (rules_by fmt tests) s c → AreUp s c → FetchRound fmt (rules_by fmt tests) s c a t d →
    RoundEnds fmt s.repository c.repository a t d × AreReady fmt (rules_by fmt tests) t d × (t.repository ≡ s.repository)

-- Fewer are left than after the round before, if there was one.
abbrev pub IsFewer : Option ℕ → ℕ → Type 0
IsFewer None left = Unit {0}
IsFewer (Some before) left = left < before

-- A fetch ends with this round's answer: none is left, or no fewer than before, or the round was refused or met a fault.
abbrev pub IsLast : Option ℕ → Answer → Type 0
IsLast before (Did (Moved n left)) = (left ≡ 0) ⊎ (¬ IsFewer before left)
IsLast before a = Unit {0}

-- Rounds of a fetch, one after another, the first after one that left so many.
pub data Fetches (fmt : Format) (rules : Rules fmt) : Option ℕ → SharedNode → CloneNode → Answer → SharedNode → CloneNode → Type 0 where
  last : {before : Option ℕ} {s t : SharedNode} {c d : CloneNode} {a : Answer} → FetchRound fmt rules s c a t d → IsLast before a → Fetches fmt rules before s c a t d
  again : {before : Option ℕ} {s t u : SharedNode} {c d e : CloneNode} {a : Answer} (n left : ℕ) → FetchRound fmt rules s c (Did (Moved n left)) u e
      → left ≢ 0 → IsFewer before left → Fetches fmt rules (Some left) u e a t d → Fetches fmt rules before s c a t d

-- None is left, and the clone has caught up; or a fault.
pub data FetchEnds (s : Repository) (a : Answer) (d : CloneNode) : Type 0 where
  moved : (n : ℕ) → a ≡ Did (Moved n 0) → IsCaughtUp s d.repository → FetchEnds s a d
  failed : (f : Failure) → a ≡ Fault f → FetchEnds s a d

-- A fetch between nodes that are ready and up catches up, unless there is a fault.
abbrev pub FetchCatchesUp : Type 0
FetchCatchesUp = (fmt : Format) (tests : Tests fmt) (s t : SharedNode) (c d : CloneNode) (a : Answer) →
    BranchesCanBeTracked fmt → AreReady fmt (rules_by fmt tests) s c → AreUp s c → Fetches fmt (rules_by fmt tests) None s c a t d →
    FetchEnds s.repository a d × AreReady fmt (rules_by fmt tests) t d × (t.repository ≡ s.repository)

-- ---- a push

-- the call was refused, or met a fault
abbrev pub IsUndone : Answer → Type 0
IsUndone (Did y) = ⊥
IsUndone a = Unit {0}

abbrev pub OpensNone : Answer → Type 0
OpensNone (Did (Opened slot)) = ⊥
OpensNone a = Unit {0}

-- The push in the slot is stepped until a step sends something or is not done.
pub data Steps (fmt : Format) (rules : Rules fmt) (slot : ℕ) : SharedNode → Answer → SharedNode → Option Message → Type 0 where
  sent : {s t : SharedNode} {a : Answer} (m : Message) → SharedAnswers fmt rules s (StepOf slot) a t (Some m) → Steps fmt rules slot s a t (Some m)
  undone : {s t : SharedNode} {a : Answer} → SharedAnswers fmt rules s (StepOf slot) a t None → IsUndone a → Steps fmt rules slot s a t None
  further : {s t u : SharedNode} {a : Answer} {sends : Option Message} (y : Reply) → SharedAnswers fmt rules s (StepOf slot) (Did y) u None → Steps fmt rules slot u a t sends
      → Steps fmt rules slot s a t sends

-- A push, by the call at which it ends, and the report that came to the clone, if one did.
pub data PushRun (fmt : Format) (rules : Rules fmt) (atomic : Bool) (items : List PushItem) (s : SharedNode) (c : CloneNode) (a : Answer) (t : SharedNode) (d : CloneNode) (report : Option Message) : Type 0 where
  unsent : CloneAnswers fmt rules c (Command (StartPush atomic items)) a d None → t ≡ s → report ≡ None → PushRun fmt rules atomic items s c a t d report
  unopened : (push : Message) (sends : Option Message) → CloneSends fmt rules c (Command (StartPush atomic items)) d push → SharedAnswers fmt rules s (Accept push) a t sends
      → OpensNone a → report ≡ None → PushRun fmt rules atomic items s c a t d report
  unreported : (u : SharedNode) (push : Message) (slot : ℕ) → CloneSends fmt rules c (Command (StartPush atomic items)) d push → SharedAnswers fmt rules s (Accept push) (Did (Opened slot)) u None
      → Steps fmt rules slot u a t None → report ≡ None → PushRun fmt rules atomic items s c a t d report
  reported : (e : CloneNode) (u : SharedNode) (push told : Message) (slot : ℕ) (b : Answer) (sends : Option Message) → CloneSends fmt rules c (Command (StartPush atomic items)) e push
      → SharedAnswers fmt rules s (Accept push) (Did (Opened slot)) u None → Steps fmt rules slot u b t (Some told) → CloneAnswers fmt rules e (Receive told) a d sends
      → report ≡ Some told → PushRun fmt rules atomic items s c a t d report

-- What the push of a new value to a branch needs.
pub record MayPush (fmt : Format) (s : SharedNode) (c : CloneNode) (b : List ℕ) (new : Id) : Type 0 where
  pub slot : (slots : Slots) → s.live ≡ Some slots → (k : ℕ) × (k < slot_count) × (get slots k ≡ None)
  pub legal : IsTrue (fmt.is_legal (branch b))
  pub free : IsFree s.repository.refs (branch b)
  -- the clone knows the branch as it is, or both have none
  pub current : get c.repository.refs (tracking b) ≡ get s.repository.refs (branch b)
  pub good : IsGoodCommit fmt (stored c.repository.objects) new
  pub forward : (u : Id) → get c.repository.refs (tracking b) ≡ Some u → IsAncestor fmt (stored c.repository.objects) u new
  -- no object there has the zero id as its name
  pub nonzero : get c.repository.objects zero_id ≡ None

-- The push of one new value to one branch.
abbrev pub one_item : List ℕ → Id → List PushItem
one_item b new = record { id = Some new; name = branch b } ∷ []

-- The report says ok, and the branch has the new value, and so has the tracking ref; or a fault.
pub data PushEnds (b : List ℕ) (new : Id) (a : Answer) (t : SharedNode) (d : CloneNode) (report : Option Message) : Type 0 where
  pushed : (moved : ℕ) → a ≡ Did (Reported moved []) → report ≡ Some (Report None (record { name = branch b; outcome = Ok new } ∷ []))
      → get t.repository.refs (branch b) ≡ Some new → get d.repository.refs (tracking b) ≡ Some new → PushEnds b new a t d report
  failed : (f : Failure) → a ≡ Fault f → PushEnds b new a t d report

-- Such a push between nodes that are ready and up is done, unless there is a fault.
abbrev pub PushSucceeds : Type 0
PushSucceeds = (fmt : Format) (tests : Tests fmt) (atomic : Bool) (s t : SharedNode) (c d : CloneNode) (a : Answer) (report : Option Message) (b : List ℕ) (new : Id) →
    BranchesCanBeTracked fmt → AreReady fmt (rules_by fmt tests) s c → AreUp s c → MayPush fmt s c b new →
    PushRun fmt (rules_by fmt tests) atomic (one_item b new) s c a t d report → PushEnds b new a t d report
