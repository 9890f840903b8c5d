-- What a clone does: local commands, and messages from the shared node.
use Rattle.std.specs.Prelude.{◌≡◌, ◌≢◌, ℕ, Bool, List, [], ◌∷◌, ◌++◌, Option, Some, None, Ok, Err, Contains, ◌⊎◌, IsTrue, length, take, unwrap_or, option_to_list, if◌then◌else◌}
use Rattle.std.specs.FinMap.{get, insert, remove, empty, entries, values}
use Rattle.std.specs.List.{list_any}
use Rattle.std.specs.Ordering.{nat_cmp, eq_by_cmp}
use Rattle.std.specs.Cmp.Lexicographic.{slice_cmp}
use Rattle.vc_model.specs.Object.{Id, zero_id, Object, blob, Format, Objects, Lookup, IsNamed, stored, over}
use Rattle.vc_model.specs.Object.Kind.{Commit}
use Rattle.vc_model.specs.Reach.{Reaches, Links, IsClosed, HasHistory, IsAncestor}
use Rattle.vc_model.specs.Refs.{RefName, Refs, Head, branch, tag, tracking, IsBranch, IsFree}
use Rattle.vc_model.specs.Refs.Head.{OnBranch, Detached}
use Rattle.vc_model.specs.Repository.{Repository, Entry, Index, gitlink, Effect, Change, no_effect, only_changes}
use Rattle.vc_model.specs.Repository.Change.{SetRefs, RemoveRef, SetHead, SetIndex}
use Rattle.vc_model.specs.Push.{Command}
use Rattle.vc_model.specs.Message.{Message, Told, max_ids}
use Rattle.vc_model.specs.Message.Message.{ListRefs, Advert, Want, Pack, Push, Report}
use Rattle.vc_model.specs.Repository.{IsRoot, IsBranchName}
use Rattle.vc_model.specs.Node.{Node, Answer, IsNoFault, Failure, Reply, Deed, Ends, sent_by, PruneEnds, RestartEnds, IsDifference}
use Rattle.vc_model.specs.Node.Answer.{Declined, Fault}
use Rattle.vc_model.specs.Node.Reply.{Stored, Made, Sends, Moved, Reported}
use Rattle.vc_model.specs.Shared.{head_value}

pub data Awaited : Type 0 where
  Nothing : Awaited
  AnAdvert : Awaited
  APack : (wants : List Id) (refs : Refs) → Awaited

-- What is stored at a clone, and what it awaits while it is up.
abbrev pub CloneNode : Type 0
CloneNode = Node Awaited

-- Nothing for `id` asks to delete.
pub record PushItem : Type 0 where
  pub id : Option Id
  pub name : RefName

pub data Task : Type 0 where
  Write : Object → Task
  Stage : (path : List ℕ) (mode : ℕ) (content : List ℕ) → Task
  Unstage : (path : List ℕ) → Task
  LoadTree : Id → Task
  MakeCommit : (extra_parents : List Id) (author committer message : List ℕ) → Task
  SetBranch : RefName → Id → Task
  DeleteBranch : RefName → Task
  MoveHead : Head → Task
  StartFetch : Task
  StartPush : (atomic : Bool) → List PushItem → Task

-- this object and no other
abbrev pub only_object : Format → Object → Objects
only_object fmt o = insert empty (fmt.name_of o) o

-- these objects, with this one too: one that is there stays
abbrev pub with_object : Objects → Id → Object → Objects
with_object s x o = insert s x (unwrap_or (get s x) o)

-- A commit that a branch or HEAD may name: closed, and its history is commits.
abbrev pub IsGoodCommit : Format → Lookup → Id → Type 0
IsGoodCommit fmt at x = IsClosed fmt at x × HasHistory fmt at x

-- HEAD's branch, or the detached HEAD, becomes x.
abbrev pub head_to : Head → Id → Change
head_to (OnBranch b) x = SetRefs ((b, x) ∷ [])
head_to (Detached y) x = SetHead (Detached x)

-- The branch that HEAD names may be set.
abbrev pub IsFreeHead : Refs → Head → Type 0
IsFreeHead refs (OnBranch b) = IsFree refs b
IsFreeHead refs (Detached x) = Unit {0}

abbrev pub IsHeadFree : Repository → Type 0
IsHeadFree r = IsFreeHead r.refs r.head

-- The trees that have exactly the files of the index, under this root. What a tree's body spells is said elsewhere.
pub record AreTreesOf (fmt : Format) (at : Lookup) (i : Index) (trees : Objects) (root : Id) : Type 0 where
  pub named : IsNamed fmt trees
  pub closed : ((p : List ℕ) (e : Entry) → get i p ≡ Some e → e.mode ≢ gitlink → IsClosed fmt at e.id) → IsClosed fmt at root

-- x is the new commit of the index with these parents; objects has it and the trees.
pub record IsNewCommit (fmt : Format) (r : Repository) (parents : List Id) (author committer message : List ℕ) (objects : Objects) (x : Id) : Type 0 where
  pub trees : Objects
  pub root : Id
  pub commit : Object
  pub trees_are : AreTreesOf fmt (over r.objects objects) r.index trees root
  pub commit_is : commit ≡ record { kind = Commit; body = fmt.commit_body root parents author committer message }
  pub name_is : x ≡ fmt.name_of commit
  pub objects_are : objects ≡ with_object trees x commit
  pub free : IsHeadFree r
  pub good : IsGoodCommit fmt (over r.objects objects) x

-- Each entry that is no commit of another repository is reached from the tree.
abbrev pub IsIndexOf : Format → Lookup → Id → Index → Type 0
IsIndexOf fmt at tree i = (p : List ℕ) (e : Entry) → get i p ≡ Some e → e.mode ≢ gitlink → Reaches (Links fmt at) tree e.id

-- The old id that a push gives: the tracking value of a branch, or zero.
abbrev pub IsOldOf : Refs → RefName → Id → Type 0
IsOldOf refs n x = ((b : List ℕ) × (n ≡ branch b) × (x ≡ unwrap_or (get refs (tracking b)) zero_id)) ⊎ ((¬ IsBranch n) × (x ≡ zero_id))

abbrev pub AreCommandsFor : Refs → List PushItem → List Command → Type 0
AreCommandsFor refs [] [] = Unit {0}
AreCommandsFor refs (i ∷ is) (c ∷ cs) = (c.name ≡ i.name) × (c.new ≡ unwrap_or i.id zero_id) × IsOldOf refs i.name c.old × AreCommandsFor refs is cs
AreCommandsFor refs [] (c ∷ cs) = ⊥
AreCommandsFor refs (i ∷ is) [] = ⊥

-- an effect that sends nothing, and its reply
abbrev pub quietly : Awaited → Effect → Reply → Deed Awaited
quietly a e y = record { effect = e; left = a; sends = None; reply = y }

-- nothing is changed, and a message is sent
abbrev pub sending : Awaited → Message → Deed Awaited
sending a m = record { effect = no_effect; left = a; sends = Some m; reply = Sends }

-- The ids of the items.
abbrev pub IsItemId : List PushItem → Id → Type 0
IsItemId is x = (i : PushItem) × Contains is i × (i.id ≡ Some x)

abbrev pub IsTrackingValue : Refs → Id → Type 0
IsTrackingValue refs x = (b : List ℕ) × (get refs (tracking b) ≡ Some x)

-- A local command.
abbrev pub Performs : Format → Repository → Awaited → Task → Deed Awaited → Type 0
Performs fmt r a (Write o) d = d ≡ quietly a (record { objects = only_object fmt o; changes = [] }) (Made (fmt.name_of o))
Performs fmt r a (Stage p m content) d =
    d ≡ quietly a (record { objects = only_object fmt (blob content); changes = SetIndex (insert r.index p (record { mode = m; id = fmt.name_of (blob content) })) ∷ [] }) Stored
Performs fmt r a (Unstage p) d = d ≡ quietly a (only_changes (SetIndex (remove r.index p) ∷ [])) Stored
Performs fmt r a (LoadTree x) d =
    (i : Index) × IsClosed fmt (stored r.objects) x × IsIndexOf fmt (stored r.objects) x i × (d ≡ quietly a (only_changes (SetIndex i ∷ [])) Stored)
Performs fmt r a (MakeCommit extra author committer message) d =
    (s : Objects) × (x : Id) × IsNewCommit fmt r (option_to_list (head_value r) ++ extra) author committer message s x
    × (d ≡ quietly a (record { objects = s; changes = head_to r.head x ∷ [] }) (Made x))
Performs fmt r a (SetBranch n x) d =
    IsBranchName fmt n × IsFree r.refs n × IsGoodCommit fmt (stored r.objects) x × (d ≡ quietly a (only_changes (SetRefs ((n, x) ∷ []) ∷ [])) Stored)
Performs fmt r a (DeleteBranch n) d = IsBranch n × (d ≡ quietly a (only_changes (RemoveRef n ∷ [])) Stored)
Performs fmt r a (MoveHead (OnBranch n)) d = IsBranchName fmt n × (d ≡ quietly a (only_changes (SetHead (OnBranch n) ∷ [])) Stored)
Performs fmt r a (MoveHead (Detached x)) d = IsGoodCommit fmt (stored r.objects) x × (d ≡ quietly a (only_changes (SetHead (Detached x) ∷ [])) Stored)
Performs fmt r a StartFetch d = d ≡ sending AnAdvert ListRefs
Performs fmt r a (StartPush atomic is) d =
    (cs : List Command) × (s : Objects) × AreCommandsFor r.refs is cs × IsDifference fmt r.objects (IsItemId is) (IsTrackingValue r.refs) s
    × (d ≡ sending a (Push atomic None cs s))

-- The tracking ref t of the branch n moves to x: it is absent, or x is another descendant of its value.
pub record MovesBranch (fmt : Format) (at : Lookup) (refs : Refs) (n : RefName) (x : Id) (t : RefName) : Type 0 where
  pub name : List ℕ
  pub branch_is : n ≡ branch name
  pub tracking_is : t ≡ tracking name
  pub legal : IsTrue (fmt.is_legal n)
  pub fits : IsTrue (fmt.is_legal t)
  pub free : IsFree refs t
  pub good : IsGoodCommit fmt at x
  pub forward : (get refs t ≡ None) ⊎ ((u : Id) × (get refs t ≡ Some u) × (u ≢ x) × IsAncestor fmt at u x)

-- An absent tag is set.
pub record MovesTag (fmt : Format) (at : Lookup) (refs : Refs) (n : RefName) (x : Id) (t : RefName) : Type 0 where
  pub name : List ℕ
  pub tag_is : n ≡ tag name
  pub same : t ≡ n
  pub legal : IsTrue (fmt.is_legal n)
  pub free : IsFree refs t
  pub closed : IsClosed fmt at x
  pub absent : get refs t ≡ None

abbrev pub MovesAny : Format → Lookup → Refs → RefName → Id → RefName → Type 0
MovesAny fmt at refs n x t = MovesBranch fmt at refs n x t ⊎ MovesTag fmt at refs n x t

-- The refs that move are set, in order, each over those before it; the others are passed over.
abbrev pub Moves : (Refs → RefName → Id → RefName → Type 0) → Refs → List (RefName × Id) → List Change → Type 0
Moves may refs [] cs = cs ≡ []
Moves may refs (r ∷ rs) cs =
    ((t : RefName) × (more : List Change) × may refs r.0 r.1 t × (cs ≡ SetRefs ((t, r.1) ∷ []) ∷ more) × Moves may (insert refs t r.1) rs more)
    ⊎ ((¬ ((t : RefName) × may refs r.0 r.1 t)) × Moves may refs rs cs)

-- The advertised ids that are not closed, each once, in order of the refs' names.
abbrev pub AreOpen : Format → Lookup → List Id → List (RefName × Id) → List Id → Type 0
AreOpen fmt at seen [] ids = ids ≡ []
AreOpen fmt at seen (r ∷ rs) ids =
    ((IsClosed fmt at r.1 ⊎ Contains seen r.1) × AreOpen fmt at seen rs ids)
    ⊎ ((¬ IsClosed fmt at r.1) × (¬ Contains seen r.1) × (more : List Id) × (ids ≡ r.1 ∷ more) × AreOpen fmt at (r.1 ∷ seen) rs more)

-- each value once, the first one
abbrev pub once : List Id → List Id → List Id
once seen [] = []
once seen (x ∷ xs) = if list_any (λ y. eq_by_cmp (slice_cmp nat_cmp) x y) seen then once seen xs else x ∷ once (x ∷ seen) xs

-- The values of the refs in order of their names, then HEAD's.
abbrev pub haves_of : Repository → List Id
haves_of r = take max_ids (once [] (values r.refs ++ option_to_list (head_value r)))

-- The new ids of the commands that the report accepts.
abbrev pub accepted_ids : List Told → List (RefName × Id)
accepted_ids [] = []
accepted_ids (t ∷ ts) = elim (t.outcome) [ Ok x ↦ (t.name, x) ∷ accepted_ids ts | Err r ↦ accepted_ids ts ]

-- The numbers of the others' reasons, in order.
abbrev pub refused_reasons : List Told → List ℕ
refused_reasons [] = []
refused_reasons (t ∷ ts) = elim (t.outcome) [ Ok x ↦ refused_reasons ts | Err r ↦ r ∷ refused_reasons ts ]

-- Refs move to the advertised values that are found good, and the clone is done with the fetch.
pub record MovesToAdvert (fmt : Format) (r : Repository) (at : Lookup) (refs : Refs) (objects : Objects) (d : Deed Awaited) : Type 0 where
  pub changes : List Change
  pub open_ids : List Id
  pub moves : Moves (MovesAny fmt at) r.refs (entries refs) changes
  pub rest : AreOpen fmt at [] (entries refs) open_ids
  pub deed : d ≡ quietly Nothing (record { objects = objects; changes = changes }) (Moved (length changes) (length open_ids))

-- A message at a clone, from the shared node.
abbrev pub Receives : Format → Repository → Awaited → Message → Deed Awaited → Type 0
Receives fmt r a (Advert head refs) d =
    (a ≡ AnAdvert) × (ids : List Id) × AreOpen fmt (stored r.objects) [] (entries refs) ids
    × (((ids ≢ []) × (d ≡ sending (APack (take max_ids ids) refs) (Want (take max_ids ids) (haves_of r))))
    ⊎ ((ids ≡ []) × MovesToAdvert fmt r (stored r.objects) refs empty d))
Receives fmt r a (Pack ack s) d =
    (wants : List Id) × (refs : Refs) × (a ≡ APack wants refs) × ((x : Id) → Contains wants x → IsClosed fmt (over r.objects s) x)
    × MovesToAdvert fmt r (over r.objects s) refs s d
Receives fmt r a (Report fault ts) d =
    (cs : List Change) × Moves (MovesBranch fmt (stored r.objects)) r.refs (accepted_ids ts) cs × (d ≡ quietly a (only_changes cs) (Reported (length cs) (refused_reasons ts)))
Receives fmt r a _ d = ⊥

-- What may come to a clone.
pub data CloneEvent : Type 0 where
  Commanded : Task → CloneEvent
  Gets : Message → CloneEvent
  PruneClone : CloneEvent
  RestartClone : CloneEvent
  -- what changes no node: a question, the setting of a stop, packing the refs, bytes that are no message
  QuietClone : CloneEvent

-- What an event does at a clone.
abbrev pub CloneDoes : Format → Repository → Awaited → CloneEvent → Deed Awaited → Type 0
CloneDoes fmt r a (Commanded t) d = Performs fmt r a t d
CloneDoes fmt r a (Gets m) d = Receives fmt r a m d
CloneDoes fmt r a _ d = ⊥

-- The message is refused with this number.
abbrev pub ReceivesNot : Format → Repository → Awaited → Message → ℕ → Type 0
ReceivesNot fmt r AnAdvert (Advert head refs) n = ⊥
ReceivesNot fmt r (APack wants refs) (Pack ack s) n = (n ≡ 92) × (x : Id) × Contains wants x × (¬ IsClosed fmt (over r.objects s) x)
ReceivesNot fmt r a (Report fault ts) n = ⊥
ReceivesNot fmt r a _ n = n ≡ 91

-- The event is refused with this number. Which local command is refused, and how, is said by the exact relation alone.
abbrev pub CloneDeclines : Format → Repository → Awaited → CloneEvent → ℕ → Type 0
CloneDeclines fmt r a (Commanded t) n = Unit {0}
CloneDeclines fmt r a (Gets m) n = ReceivesNot fmt r a m n
CloneDeclines fmt r a _ n = ⊥

-- what a clone's refs, HEAD and index reach
abbrev pub IsReached : Format → Repository → Id → Type 0
IsReached fmt r y = (x : Id) × IsRoot r x × Reaches (Links fmt (stored r.objects)) x y

-- At a clone the event may have this answer, lead to this node and send this.
pub data CloneStep (fmt : Format) (old : CloneNode) (e : CloneEvent) (a : Answer) (new : CloneNode) (sends : Option Message) : Type 0 where
  down : old.live ≡ None → e ≢ RestartClone → e ≢ QuietClone → a ≡ Declined 112 → new ≡ old → sends ≡ None → CloneStep fmt old e a new sends
  declines : (w : Awaited) (n : ℕ) → old.live ≡ Some w → CloneDeclines fmt old.repository w e n → a ≡ Declined n → new ≡ old → sends ≡ None → CloneStep fmt old e a new sends
  works : (w : Awaited) (d : Deed Awaited) → old.live ≡ Some w → CloneDoes fmt old.repository w e d → Ends a old d new → sends ≡ sent_by a d → CloneStep fmt old e a new sends
  prunes : (w : Awaited) → e ≡ PruneClone → old.live ≡ Some w → PruneEnds a (IsReached fmt old.repository) old new → sends ≡ None → CloneStep fmt old e a new sends
  restarts : e ≡ RestartClone → RestartEnds a old Nothing new → sends ≡ None → CloneStep fmt old e a new sends
  quiet : e ≡ QuietClone → IsNoFault a → new ≡ old → sends ≡ None → CloneStep fmt old e a new sends
  -- a fault before anything was done
  faults : (w : Awaited) (f : Failure) → old.live ≡ Some w → a ≡ Fault f → new ≡ record { repository = old.repository; live = None } → sends ≡ None → CloneStep fmt old e a new sends
