-- A node, what an event may do to it, and how that ends: whole, or cut short by a stop.
use Rattle.std.specs.Prelude.{◌≡◌, ℕ, ◌-◌, List, Option, Some, None}
use Rattle.std.specs.FinMap.{get, len}
use Rattle.vc_model.specs.Object.{Id, Object, Format, Objects, Lookup, stored}
use Rattle.vc_model.specs.Reach.{Reaches, Links}
use Rattle.vc_model.specs.Refs.{RefName}
use Rattle.vc_model.specs.Repository.{Repository, Effect, Done, StopsWithin, Pruned, PartlyPruned, with_objects}
use Rattle.vc_model.specs.Push.{Reason}
use Rattle.vc_model.specs.Message.{Message}

-- What is stored, and while the node is up what is open or awaited there.
pub record Node (V : Type 0) : Type 0 where
  pub repository : Repository
  pub live : Option V

pub data Reply : Type 0 where
  Stored : Reply
  -- the object that was stored
  Made : Id → Reply
  -- the value of an expression
  Found : Id → Reply
  Same : Reply
  Differs : Reply
  -- the message that was sent
  Sends : Reply
  -- the slot of a push
  Opened : (slot : ℕ) → Reply
  -- how many commands passed their check
  Passed : (commands : ℕ) → Reply
  MigratedAll : Reply
  -- a ref was set, or why it was not
  Updated : RefName → Option Reason → Reply
  -- all refs of an atomic push were set, or the first that has a cause of its own
  UpdatedAll : (refs : ℕ) → Reply
  RefusedAll : RefName → Reason → Reply
  -- how many refs moved, and how many advertised ids are not closed yet
  Moved : (moved left : ℕ) → Reply
  Reported : (moved : ℕ) (refused : List ℕ) → Reply
  Removed : (objects : ℕ) → Reply

pub data Failure : Type 0 where
  Memory : Failure
  Device : Failure

pub data Answer : Type 0 where
  Did : Reply → Answer
  Declined : (refusal : ℕ) → Answer
  Fault : Failure → Answer

abbrev pub IsNoFault : Answer → Type 0
IsNoFault (Fault f) = ⊥
IsNoFault _ = Unit {0}

-- What an event does at a node: its effect on what is stored, what is open or awaited then, what is sent, the reply.
pub record Deed (V : Type 0) : Type 0 where
  pub effect : Effect
  pub left : V
  pub sends : Option Message
  pub reply : Reply

-- The deed is done whole, or a stop cuts it short and the node is down.
abbrev pub Ends : {V : Type 0} → Answer → Node V → Deed V → Node V → Type 0
Ends (Did y) old d new = Done old.repository d.effect new.repository × (new.live ≡ Some d.left) × (y ≡ d.reply)
Ends (Fault f) old d new = StopsWithin old.repository d.effect new.repository × (new.live ≡ None)
Ends (Declined n) old d new = ⊥

-- What is sent; nothing at a stop.
abbrev pub sent_by : {V : Type 0} → Answer → Deed V → Option Message
sent_by (Did y) d = d.sends
sent_by _ d = None

-- The objects that are not needed go, or a stop leaves some of them and the node is down.
abbrev pub PruneEnds : {V : Type 0} → Answer → (Id → Type 0) → Node V → Node V → Type 0
PruneEnds (Did y) needed old new =
    Pruned needed old.repository.objects new.repository.objects × (new.repository ≡ with_objects old.repository new.repository.objects) × (new.live ≡ old.live)
    × (y ≡ Removed (len old.repository.objects - len new.repository.objects))
PruneEnds (Fault f) needed old new =
    PartlyPruned needed old.repository.objects new.repository.objects × (new.repository ≡ with_objects old.repository new.repository.objects) × (new.live ≡ None)
PruneEnds (Declined n) needed old new = ⊥

-- After a restart the node is up, with nothing open and nothing awaited, which is fresh; or that fails and it is down.
abbrev pub RestartEnds : {V : Type 0} → Answer → Node V → V → Node V → Type 0
RestartEnds (Did y) old fresh new = (y ≡ Stored) × (new ≡ record { repository = old.repository; live = Some fresh })
RestartEnds (Fault f) old fresh new = new ≡ record { repository = old.repository; live = None }
RestartEnds (Declined n) old fresh new = ⊥

-- Some of the names reaches y.
abbrev pub ReachedFrom : Format → Lookup → (Id → Type 0) → Id → Type 0
ReachedFrom fmt at roots y = (x : Id) × roots x × Reaches (Links fmt at) x y

-- The objects of s that the included names reach and the excluded ones do not.
pub record IsDifference (fmt : Format) (s : Objects) (include exclude : Id → Type 0) (d : Objects) : Type 0 where
  pub only : (x : Id) (o : Object) → get d x ≡ Some o → (get s x ≡ Some o) × ReachedFrom fmt (stored s) include x × (¬ ReachedFrom fmt (stored s) exclude x)
  pub all : (x : Id) (o : Object) → get s x ≡ Some o → ReachedFrom fmt (stored s) include x → (¬ ReachedFrom fmt (stored s) exclude x) → get d x ≡ Some o
