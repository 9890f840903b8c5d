-- What a clone answers to each call, exactly: every refusal with its number, every reply, and the node after it.
use Rattle.std.specs.Prelude.{◌≡◌, ◌≢◌, ℕ, ◌≤◌, List, [], ◌∷◌, ◌++◌, Option, Some, None, Ok, Err, ◌⊎◌, length, option_to_list}
use Rattle.std.specs.FinMap.{get}
use Rattle.std.specs.List.{AllByRecursion}
use Rattle.vc_model.specs.Object.{Id, Object, blob, IsLine, Format, Objects, Lookup, stored}
use Rattle.vc_model.specs.Object.Kind.{Commit}
use Rattle.vc_model.specs.Reach.{IsClosed, HasHistory}
use Rattle.vc_model.specs.Refs.{Conflicts, IsFree}
use Rattle.vc_model.specs.Refs.Head.{Detached}
use Rattle.vc_model.specs.Repository.{Repository, Index, Entry, only_changes}
use Rattle.vc_model.specs.Repository.Change.{SetIndex}
use Rattle.vc_model.specs.Message.{Message, HasObject, max_commands}
use Rattle.vc_model.specs.Node.{Answer, Failure, Deed, Ends, sent_by, PruneEnds, RestartEnds}
use Rattle.vc_model.specs.Node.Answer.{Declined, Fault}
use Rattle.vc_model.specs.Node.Reply.{Stored, Made}
use Rattle.vc_model.specs.Shared.{head_value}
use Rattle.vc_model.specs.Clone.{Awaited, CloneNode, PushItem, Task, Performs, Receives, ReceivesNot, IsGoodCommit, IsHeadFree, IsItemId, IsReached, quietly, head_to, with_object}
use Rattle.vc_model.specs.Clone.Awaited.{Nothing}
use Rattle.vc_model.specs.Clone.Task.{Write, Stage, LoadTree, MakeCommit, SetBranch, MoveHead, StartPush}
use Rattle.vc_model.specs.Rules.{Rules}
use Rattle.vc_model.specs.Question.{Question, Tells}

-- Refused with this number unless the need is met, and then by the rest.
abbrev pub Unless : Type 0 → ℕ → ℕ → Type 0 → Type 0
Unless need number n rest = ((¬ need) × (n ≡ number)) ⊎ (need × rest)

-- No entry of the index is a folder of the path, or in it.
abbrev pub IsFreePath : Index → List ℕ → Type 0
IsFreePath i p = (q : List ℕ) (e : Entry) → get i q ≡ Some e → ¬ Conflicts q p

-- HEAD's commit, if there is one, and the others.
abbrev pub parents_with : Repository → List Id → List Id
parents_with r extra = option_to_list (head_value r) ++ extra

abbrev pub new_commit : Format → Repository → (root : Id) → (extra : List Id) → (author committer message : List ℕ) → Object
new_commit fmt r root extra author committer message = record { kind = Commit; body = fmt.commit_body root (parents_with r extra) author committer message }

-- The number that refuses the first of these that is no complete commit, or the rest.
abbrev pub CommitsOr : Format → Lookup → List Id → ℕ → Type 0 → Type 0
CommitsOr fmt at [] n rest = rest
CommitsOr fmt at (x ∷ xs) n rest = Unless (IsClosed fmt at x) 40 n (Unless (HasHistory fmt at x) 41 n (CommitsOr fmt at xs n rest))

-- The start of a push is refused with this number.
abbrev pub RefusesPush : Format → Repository → List PushItem → ℕ → Type 0
RefusesPush fmt r items n =
    Unless (length items ≤ max_commands) 84 n (Unless ((x : Id) → IsItemId items x → IsClosed fmt (stored r.objects) x) 40 n ⊥)

-- The local command is refused with this number.
abbrev pub Refuses : (fmt : Format) → Rules fmt → Repository → Task → ℕ → Type 0
Refuses fmt rules r (Write o) n = rules.fault o (Some n)
Refuses fmt rules r (Stage p mode content) n = Unless (rules.is_path p) 60 n (Unless (IsFreePath r.index p) 61 n (rules.fault (blob content) (Some n)))
Refuses fmt rules r (LoadTree x) n = rules.index_of r.objects x (Err n)
Refuses fmt rules r (MakeCommit extra author committer message) n =
    Unless (IsLine author × IsLine committer) 8 n (Unless (IsHeadFree r) 32 n (CommitsOr fmt (stored r.objects) extra n
    (rules.trees_of r.index (Err n)
    ⊎ ((t : Objects × Id) × rules.trees_of r.index (Ok t) × (rules.fault (new_commit fmt r t.1 extra author committer message) (Some n))))))
Refuses fmt rules r (SetBranch b x) n =
    Unless (IsFree r.refs b) 32 n (Unless (IsClosed fmt (stored r.objects) x) 40 n (Unless (HasHistory fmt (stored r.objects) x) 41 n ⊥))
Refuses fmt rules r (MoveHead (Detached x)) n = Unless (IsClosed fmt (stored r.objects) x) 40 n (Unless (HasHistory fmt (stored r.objects) x) 41 n ⊥)
Refuses fmt rules r (StartPush atomic items) n = RefusesPush fmt r items n
Refuses fmt rules r _ n = ⊥

-- What the local command does where nothing refuses it.
abbrev pub Obeys : (fmt : Format) → Rules fmt → Repository → Awaited → Task → Deed Awaited → Type 0
Obeys fmt rules r a (Write o) d = (rules.fault o None) × Performs fmt r a (Write o) d
Obeys fmt rules r a (Stage p mode content) d =
    rules.is_path p × IsFreePath r.index p × (rules.fault (blob content) None) × Performs fmt r a (Stage p mode content) d
Obeys fmt rules r a (LoadTree x) d = (i : Index) × rules.index_of r.objects x (Ok i) × (d ≡ quietly a (only_changes (SetIndex i ∷ [])) Stored)
Obeys fmt rules r a (MakeCommit extra author committer message) d =
    (IsLine author × IsLine committer) × IsHeadFree r × AllByRecursion (IsGoodCommit fmt (stored r.objects)) extra
    × ((t : Objects × Id) × rules.trees_of r.index (Ok t)
    × (let commit = new_commit fmt r t.1 extra author committer message in let x = fmt.name_of commit in
    (rules.fault commit None) × (d ≡ quietly a (record { objects = with_object t.0 x commit; changes = head_to r.head x ∷ [] }) (Made x))))
Obeys fmt rules r a (StartPush atomic items) d =
    (length items ≤ max_commands) × ((x : Id) → IsItemId items x → IsClosed fmt (stored r.objects) x) × Performs fmt r a (StartPush atomic items) d
Obeys fmt rules r a t d = Performs fmt r a t d

-- The local command makes the object, whether or not it is stored already.
abbrev pub Makes : (fmt : Format) → Rules fmt → Repository → Task → Object → Type 0
Makes fmt rules r (Write p) o = p ≡ o
Makes fmt rules r (Stage path mode content) o = blob content ≡ o
Makes fmt rules r (MakeCommit extra author committer message) o =
    (t : Objects × Id) × rules.trees_of r.index (Ok t) × (HasObject t.0 o ⊎ (new_commit fmt r t.1 extra author committer message ≡ o))
Makes fmt rules r _ o = ⊥

-- A call of a clone.
pub data CloneCall : Type 0 where
  Command : Task → CloneCall
  Receive : Message → CloneCall
  Asks : Question → CloneCall
  Prune : CloneCall
  Open : CloneCall

abbrev pub CloneRefuses : (fmt : Format) → Rules fmt → Repository → Awaited → CloneCall → ℕ → Type 0
CloneRefuses fmt rules r a (Command t) n = Refuses fmt rules r t n
CloneRefuses fmt rules r a (Receive m) n = ReceivesNot fmt r a m n
CloneRefuses fmt rules r a _ n = ⊥

abbrev pub CloneObeys : (fmt : Format) → Rules fmt → Repository → Awaited → CloneCall → Deed Awaited → Type 0
CloneObeys fmt rules r a (Command t) d = Obeys fmt rules r a t d
CloneObeys fmt rules r a (Receive m) d = Receives fmt r a m d
CloneObeys fmt rules r a _ d = ⊥

-- The clone's answer to the call, the node after it, and what it sends.
pub data CloneAnswers (fmt : Format) (rules : Rules fmt) (old : CloneNode) (e : CloneCall) (a : Answer) (new : CloneNode) (sends : Option Message) : Type 0 where
  down : old.live ≡ None → e ≢ Open → a ≡ Declined 112 → new ≡ old → sends ≡ None → CloneAnswers fmt rules old e a new sends
  asked : (w : Awaited) (q : Question) → old.live ≡ Some w → e ≡ Asks q → Tells fmt rules old.repository q a → new ≡ old → sends ≡ None → CloneAnswers fmt rules old e a new sends
  refused : (w : Awaited) (n : ℕ) → old.live ≡ Some w → CloneRefuses fmt rules old.repository w e n → a ≡ Declined n → new ≡ old → sends ≡ None → CloneAnswers fmt rules old e a new sends
  obeyed : (w : Awaited) (d : Deed Awaited) → old.live ≡ Some w → CloneObeys fmt rules old.repository w e d → Ends a old d new → sends ≡ sent_by a d → CloneAnswers fmt rules old e a new sends
  pruned : (w : Awaited) → old.live ≡ Some w → e ≡ Prune → PruneEnds a (IsReached fmt old.repository) old new → sends ≡ None → CloneAnswers fmt rules old e a new sends
  opened : e ≡ Open → RestartEnds a old Nothing new → sends ≡ None → CloneAnswers fmt rules old e a new sends
  -- a fault before anything was done
  faulted : (w : Awaited) (f : Failure) → old.live ≡ Some w → e ≢ Open → a ≡ Fault f → new ≡ record { repository = old.repository; live = None } → sends ≡ None → CloneAnswers fmt rules old e a new sends
