-- What the shared node does with a message, and with a step of an open push.
use Rattle.std.specs.Prelude.{◌≡◌, ◌≢◌, ℕ, ◌<◌, Bool, true, false, List, [], ◌∷◌, ◌++◌, map, Option, Some, None, is_none, Ok, Err, Contains, count_by, length, ◌⊎◌, if◌then◌else◌}
use Rattle.std.specs.FinMap.{get, insert, remove, empty}
use Rattle.std.specs.List.{list_any, list_all, AllByRecursion}
use Rattle.vc_model.specs.Object.{Id, Format, Objects, stored, over}
use Rattle.vc_model.specs.Reach.{Reaches, Links}
use Rattle.vc_model.specs.Repository.{Repository, Effect, Change, no_effect, only_changes, IsRoot}
use Rattle.vc_model.specs.Refs.{RefName}
use Rattle.vc_model.specs.Refs.Head.{OnBranch, Detached}
use Rattle.vc_model.specs.Push.{Command, Judged, Verdict, Reason, Stage, OpenPush, Slots, is_passing, stage_while, ChecksPush, Updates, UpdatesAll, reason_number}
use Rattle.vc_model.specs.Push.Verdict.{Passing, Accepted, Refused}
use Rattle.vc_model.specs.Push.Reason.{UnpackerError}
use Rattle.vc_model.specs.Push.Stage.{Unpacked, Checked, Migrated, Finished}
use Rattle.vc_model.specs.Message.{Message, Told}
use Rattle.vc_model.specs.Message.Message.{ListRefs, Advert, Want, Pack, Push, Report}
use Rattle.vc_model.specs.Node.{Node, Answer, IsNoFault, Failure, Reply, Deed, Ends, sent_by, PruneEnds, RestartEnds, ReachedFrom, IsDifference}
use Rattle.vc_model.specs.Node.Answer.{Declined, Fault}
use Rattle.vc_model.specs.Node.Reply.{Sends, Opened, Passed, MigratedAll, Updated, UpdatedAll, RefusedAll}

-- What is stored at the shared node, and its open pushes while it is up.
abbrev pub SharedNode : Type 0
SharedNode = Node Slots

-- The shared node has this many slots, in which pushes are open.
abbrev pub slot_count : ℕ
slot_count = 8

-- Some ref reaches x.
abbrev pub IsOurs : Format → Repository → Id → Type 0
IsOurs fmt r x = ReachedFrom fmt (stored r.objects) (λ y. (n : RefName) × (get r.refs n ≡ Some y)) x

-- HEAD's commit, if there is one.
abbrev pub head_value : Repository → Option Id
head_value r = elim (r.head) [ OnBranch b ↦ get r.refs b | Detached x ↦ Some x ]

-- the lowest of the slots that is free
pub record IsLowestFree (slots : Slots) (s : ℕ) : Type 0 where
  pub below : s < slot_count
  pub free : get slots s ≡ None
  pub lowest : (t : ℕ) → t < s → get slots t ≢ None

abbrev pub fresh : Option ℕ → Command → Judged
fresh fault c = record { command = c; verdict = if is_none fault then Passing else Refused UnpackerError }

-- The push as it is opened. Where a carried body is at fault nothing is carried.
abbrev pub opened : Bool → Option ℕ → List Command → Objects → OpenPush
opened atomic fault commands objects =
    record { atomic = atomic; fault = fault; commands = map (fresh fault) commands; carried = if is_none fault then objects else empty; stage = Unpacked }

-- The first have that some ref reaches, if there is one.
abbrev pub IsFirstCounted : Format → Repository → List Id → Option Id → Type 0
IsFirstCounted fmt r [] ack = ack ≡ None
IsFirstCounted fmt r (h ∷ hs) ack = (IsOurs fmt r h × (ack ≡ Some h)) ⊎ ((¬ IsOurs fmt r h) × IsFirstCounted fmt r hs ack)

-- A message at the shared node.
abbrev pub Serves : Format → Repository → Slots → Message → Deed Slots → Type 0
Serves fmt r slots ListRefs d = d ≡ record { effect = no_effect; left = slots; sends = Some (Advert (head_value r) r.refs); reply = Sends }
Serves fmt r slots (Want wants haves) d =
    AllByRecursion (IsOurs fmt r) wants
    × ((ack : Option Id) × (pack : Objects) × IsFirstCounted fmt r haves ack
    × IsDifference fmt r.objects (Contains wants) (λ h. Contains haves h × IsOurs fmt r h) pack
    × (d ≡ record { effect = no_effect; left = slots; sends = Some (Pack ack pack); reply = Sends }))
Serves fmt r slots (Push atomic fault commands objects) d =
    (s : ℕ) × IsLowestFree slots s
    × (d ≡ record { effect = no_effect; left = insert slots s (opened atomic fault commands objects); sends = None; reply = Opened s })
Serves fmt r slots _ d = ⊥

-- The next command that passed is judged, and its ref set if it still passes.
pub record UpdatesNext (r : Repository) (js ks : List Judged) (changes : List Change) : Type 0 where
  pub front : List Judged
  pub next : Judged
  pub back : List Judged
  pub verdict : Verdict
  pub before : js ≡ front ++ next ∷ back
  pub first : list_any is_passing front ≡ false
  pub passing : next.verdict ≡ Passing
  pub update : Updates r.refs next.command verdict changes
  pub after : ks ≡ front ++ record { command = next.command; verdict = verdict } ∷ back

abbrev pub refusal_of : Verdict → Option Reason
refusal_of (Refused r) = Some r
refusal_of _ = None

-- The first command of an atomic push that has a cause of its own.
abbrev pub first_refusal : List Judged → List (Option Reason) → Option Reply
first_refusal (j ∷ js) (Some r ∷ rs) = Some (RefusedAll j.command.name r)
first_refusal (j ∷ js) (None ∷ rs) = first_refusal js rs
first_refusal _ _ = None

-- An update: of all commands where the push is atomic, else of the next one.
pub data UpdatesPush (r : Repository) (p : OpenPush) (ks : List Judged) (changes : List Change) (y : Reply) : Type 0 where
  together : (rs : List (Option Reason)) → p.atomic ≡ true → UpdatesAll r.refs p.commands rs ks changes
      → (if list_all is_none rs then Some (UpdatedAll (length p.commands)) else first_refusal p.commands rs) ≡ Some y → UpdatesPush r p ks changes y
  singly : (u : UpdatesNext r p.commands ks changes) → p.atomic ≡ false → y ≡ Updated u.next.command.name (refusal_of u.verdict) → UpdatesPush r p ks changes y

-- A step of an open push that is not finished.
abbrev pub StepsPush : Format → Repository → OpenPush → Stage → Effect → OpenPush → Reply → Type 0
StepsPush fmt r p Unpacked e q y =
    (ks : List Judged) × ChecksPush fmt (over r.objects p.carried) p.atomic p.commands ks
    × (e ≡ no_effect) × (q ≡ record p { commands = ks; stage = stage_while ks Checked }) × (y ≡ Passed (count_by is_passing ks))
StepsPush fmt r p Checked e q y = (e ≡ record { objects = p.carried; changes = [] }) × (q ≡ record p { stage = Migrated }) × (y ≡ MigratedAll)
StepsPush fmt r p Migrated e q y =
    (ks : List Judged) × (cs : List Change) × UpdatesPush r p ks cs y
    × (e ≡ only_changes cs) × (q ≡ record p { commands = ks; stage = stage_while ks Migrated })
StepsPush fmt r p Finished e q y = ⊥

-- A verdict of a finished push, as it is reported.
abbrev pub Tells : Judged → Told → Type 0
Tells j t = (t.name ≡ j.command.name) × ((j.verdict ≡ Accepted) × (t.outcome ≡ Ok j.command.new) ⊎ ((r : Reason) × (j.verdict ≡ Refused r) × (t.outcome ≡ Err (reason_number r))))

abbrev pub TellsAll : List Judged → List Told → Type 0
TellsAll [] [] = Unit {0}
TellsAll (j ∷ js) (t ∷ ts) = Tells j t × TellsAll js ts
TellsAll [] (t ∷ ts) = ⊥
TellsAll (j ∷ js) [] = ⊥

-- A step of the push in a slot.
abbrev pub StepsSlot : Format → Repository → Slots → ℕ → Deed Slots → Type 0
StepsSlot fmt r slots s d =
    (p : OpenPush) × (get slots s ≡ Some p)
    × (((q : OpenPush) × StepsPush fmt r p p.stage d.effect q d.reply × (d.left ≡ insert slots s q) × (d.sends ≡ None))
    ⊎ ((ts : List Told) × (p.stage ≡ Finished) × TellsAll p.commands ts
    × (d ≡ record { effect = no_effect; left = remove slots s; sends = Some (Report p.fault ts); reply = Sends })))

-- An object that a prune of the shared node keeps.
pub data IsNeeded (fmt : Format) (r : Repository) (slots : Slots) (y : Id) : Type 0 where
  by_root : (x : Id) → IsRoot r x → Reaches (Links fmt (stored r.objects)) x y → IsNeeded fmt r slots y
  by_push : (s : ℕ) (p : OpenPush) (j : Judged) → get slots s ≡ Some p → Contains p.commands j → ((v : Reason) → j.verdict ≢ Refused v)
      → Reaches (Links fmt (over r.objects p.carried)) j.command.new y → IsNeeded fmt r slots y

-- What may come to the shared node.
pub data SharedEvent : Type 0 where
  Arrives : Message → SharedEvent
  StepSlot : (slot : ℕ) → SharedEvent
  PruneShared : SharedEvent
  RestartShared : SharedEvent
  -- what changes no node: a question, the setting of a stop, packing the refs, bytes that are no message
  QuietShared : SharedEvent

-- What an event does there.
abbrev pub SharedDoes : Format → Repository → Slots → SharedEvent → Deed Slots → Type 0
SharedDoes fmt r slots (Arrives m) d = Serves fmt r slots m d
SharedDoes fmt r slots (StepSlot s) d = StepsSlot fmt r slots s d
SharedDoes fmt r slots _ d = ⊥

-- The message is refused with this number.
abbrev pub ServesNot : Format → Repository → Slots → Message → ℕ → Type 0
ServesNot fmt r slots (Want wants haves) n = (n ≡ 90) × (x : Id) × Contains wants x × (¬ IsOurs fmt r x)
ServesNot fmt r slots (Push atomic fault commands objects) n = (n ≡ 110) × ((s : ℕ) → s < slot_count → get slots s ≢ None)
ServesNot fmt r slots ListRefs n = ⊥
ServesNot fmt r slots _ n = n ≡ 91

-- The event is refused with this number.
abbrev pub SharedDeclines : Format → Repository → Slots → SharedEvent → ℕ → Type 0
SharedDeclines fmt r slots (Arrives m) n = ServesNot fmt r slots m n
SharedDeclines fmt r slots (StepSlot s) n = (n ≡ 111) × (get slots s ≡ None)
SharedDeclines fmt r slots _ n = ⊥

-- At the shared node the event may have this answer, lead to this node and send this.
pub data SharedStep (fmt : Format) (old : SharedNode) (e : SharedEvent) (a : Answer) (new : SharedNode) (sends : Option Message) : Type 0 where
  down : old.live ≡ None → e ≢ RestartShared → e ≢ QuietShared → a ≡ Declined 112 → new ≡ old → sends ≡ None → SharedStep fmt old e a new sends
  declines : (slots : Slots) (n : ℕ) → old.live ≡ Some slots → SharedDeclines fmt old.repository slots e n → a ≡ Declined n → new ≡ old → sends ≡ None → SharedStep fmt old e a new sends
  works : (slots : Slots) (d : Deed Slots) → old.live ≡ Some slots → SharedDoes fmt old.repository slots e d → Ends a old d new → sends ≡ sent_by a d → SharedStep fmt old e a new sends
  prunes : (slots : Slots) → e ≡ PruneShared → old.live ≡ Some slots → PruneEnds a (IsNeeded fmt old.repository slots) old new → sends ≡ None → SharedStep fmt old e a new sends
  restarts : e ≡ RestartShared → RestartEnds a old empty new → sends ≡ None → SharedStep fmt old e a new sends
  quiet : e ≡ QuietShared → IsNoFault a → new ≡ old → sends ≡ None → SharedStep fmt old e a new sends
  -- a fault before anything was done
  faults : (slots : Slots) (f : Failure) → old.live ≡ Some slots → a ≡ Fault f → new ≡ record { repository = old.repository; live = None } → sends ≡ None → SharedStep fmt old e a new sends
