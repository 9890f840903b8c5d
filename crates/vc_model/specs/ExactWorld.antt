-- The world exactly: every event with its one answer, but for what a stop leaves. Runs of it, and what occurs in them.
use Rattle.std.specs.Prelude.{◌≡◌, ◌≢◌, ℕ, Bool, IsTrue, List, [], ◌∷◌, Option, Some, None, Result, Ok, ◌⊎◌, slice_get, unwrap_or}
use Rattle.std.specs.FinMap.{get}
use Rattle.vc_model.specs.Object.{Object, Format}
use Rattle.vc_model.specs.Push.{Slots}
use Rattle.vc_model.specs.Message.{Message, Carries}
use Rattle.vc_model.specs.Message.Envelope.{ToShared, ToClone}
use Rattle.vc_model.specs.Node.{Node, Answer}
use Rattle.vc_model.specs.Node.Answer.{Did, Declined}
use Rattle.vc_model.specs.Node.Reply.{Stored}
use Rattle.vc_model.specs.Shared.{SharedNode}
use Rattle.vc_model.specs.Clone.{Awaited, CloneNode, Task}
use Rattle.vc_model.specs.World.{World, Party, after_shared, after_clone}
use Rattle.vc_model.specs.World.Party.{TheShared, TheClone}
use Rattle.vc_model.specs.Run.{OccursIn}
use Rattle.vc_model.specs.Rules.{Rules}
use Rattle.vc_model.specs.Wire.{Wire}
use Rattle.vc_model.specs.Question.Question.{Unread, Unresolved, Interrupted, Compare, PackRefs}
use Rattle.vc_model.specs.SharedCall.{SharedCall, SharedAnswers}
use Rattle.vc_model.specs.SharedCall.SharedCall.{Accept, StepOf, Asks as AsksShared, Prune as PruneShared, Open as OpenShared}
use Rattle.vc_model.specs.CloneCall.{CloneCall, CloneAnswers, Makes}
use Rattle.vc_model.specs.CloneCall.CloneCall.{Receive, Asks, Prune, Open}
use Rattle.vc_model.specs.Order.{Order, Expression, IsTaskOf, call_of}
use Rattle.vc_model.specs.Fuse.{Fuse, Fuses, SharedWrites, CloneWrites, SetsTogether, Burns, with_fuse}

-- A world, whether its devices are frail, so that they may fail where no stop was set, and the writes left at its nodes.
pub record FusedWorld : Type 0 where
  pub world : World
  pub frail : Bool
  pub shared_fuse : Fuse
  pub clone_fuses : Fuses

-- Bytes, and whose they seem to be.
pub data Letter : Type 0 where
  -- to the shared node, as from this clone
  FromClone : (clone : ℕ) (bytes : List ℕ) → Letter
  -- to this clone, as from the shared node
  FromShared : (clone : ℕ) (bytes : List ℕ) → Letter

abbrev pub bytes_of : Letter → List ℕ
bytes_of (FromClone c bytes) = bytes
bytes_of (FromShared c bytes) = bytes

pub data WorldEvent : Type 0 where
  Orders : (clone : ℕ) → Order → WorldEvent
  Delivers : (message : ℕ) → WorldEvent
  -- bytes come that nobody sent
  Forges : Letter → WorldEvent
  Steps : (slot : ℕ) → WorldEvent
  Compares : Party → (first second : Expression) → WorldEvent
  Prunes : Party → WorldEvent
  Packs : Party → WorldEvent
  Restarts : Party → WorldEvent
  Stops : Party → (writes : ℕ) → WorldEvent

-- The bytes come as this call: of the message that they are, or of their refusal.
abbrev pub ComesAs : (fmt : Format) → Wire fmt → {Call : Type 0} → List ℕ → (Message → Call) → (ℕ → Call) → Call → Type 0
ComesAs fmt wire bytes message refusal i =
    ((m : Message) × wire.reads bytes m × (i ≡ message m)) ⊎ ((n : ℕ) × wire.refuses bytes n × (i ≡ refusal n))

-- The event comes to the shared node as this call, and its reply goes to clone c.
abbrev pub CallsShared : (fmt : Format) → Wire fmt → World → WorldEvent → ℕ → SharedCall → Type 0
CallsShared fmt wire w (Delivers k) c i = (m : Message) × (slice_get w.sent k ≡ Some (ToShared c m)) × (i ≡ Accept m)
CallsShared fmt wire w (Forges (FromClone b bytes)) c i = (b ≡ c) × ComesAs fmt wire bytes Accept (λ n. AsksShared (Unread n)) i
CallsShared fmt wire w (Steps s) c i = (c ≡ unwrap_or (get w.senders s) 0) × (i ≡ StepOf s)
CallsShared fmt wire w (Compares TheShared x y) c i = (c ≡ 0) × (i ≡ AsksShared (Compare x y))
CallsShared fmt wire w (Prunes TheShared) c i = (c ≡ 0) × (i ≡ PruneShared)
CallsShared fmt wire w (Packs TheShared) c i = (c ≡ 0) × (i ≡ AsksShared PackRefs)
CallsShared fmt wire w (Restarts TheShared) c i = (c ≡ 0) × (i ≡ OpenShared)
CallsShared fmt wire w _ c i = ⊥

-- An order's expressions are read first, which a fault may cut short; a node that is down reads none.
abbrev pub OrderCalls : (fmt : Format) → Rules fmt → CloneNode → Order → CloneCall → Type 0
OrderCalls fmt rules n o i =
    ((n.live ≡ None) × (i ≡ Asks (Unresolved 112)))
    ⊎ ((n.live ≢ None) × (((v : Result Task ℕ) × IsTaskOf fmt rules n.repository o v × (i ≡ call_of v)) ⊎ (i ≡ Asks Interrupted)))

-- The event comes to clone c, which is this node, as this call.
abbrev pub CallsClone : (fmt : Format) → Wire fmt → World → WorldEvent → ℕ → CloneNode → CloneCall → Type 0
CallsClone fmt wire w (Orders b o) c n i = (b ≡ c) × OrderCalls fmt wire.rules n o i
CallsClone fmt wire w (Delivers k) c n i = (m : Message) × (slice_get w.sent k ≡ Some (ToClone c m)) × (i ≡ Receive m)
CallsClone fmt wire w (Forges (FromShared b bytes)) c n i = (b ≡ c) × ComesAs fmt wire bytes Receive (λ k. Asks (Unread k)) i
CallsClone fmt wire w (Compares (TheClone b) x y) c n i = (b ≡ c) × (i ≡ Asks (Compare x y))
CallsClone fmt wire w (Prunes (TheClone b)) c n i = (b ≡ c) × (i ≡ Prune)
CallsClone fmt wire w (Packs (TheClone b)) c n i = (b ≡ c) × (i ≡ Asks PackRefs)
CallsClone fmt wire w (Restarts (TheClone b)) c n i = (b ≡ c) × (i ≡ Open)
CallsClone fmt wire w _ c n i = ⊥

-- A restart takes the fuse out first.
abbrev pub shared_fuse_at : Fuse → SharedCall → Fuse
shared_fuse_at fuse OpenShared = None
shared_fuse_at fuse _ = fuse

abbrev pub clone_fuse_at : Fuse → CloneCall → Fuse
clone_fuse_at fuse Open = None
clone_fuse_at fuse _ = fuse

-- a node that is down writes nothing
abbrev pub MayShared : Format → SharedNode → SharedCall → Type 0
MayShared fmt n i = (slots : Slots) × (n.live ≡ Some slots) × SharedWrites fmt n.repository slots i

abbrev pub TogetherAt : SharedNode → SharedCall → Type 0
TogetherAt n i = (slots : Slots) × (n.live ≡ Some slots) × SetsTogether slots i

abbrev pub MayClone : (fmt : Format) → Rules fmt → CloneNode → CloneCall → Type 0
MayClone fmt rules n i = (a : Awaited) × (n.live ≡ Some a) × CloneWrites fmt rules n.repository a i

-- A stop sets the writes left. It need not at a node that is down, since a restart takes them out before anything is seen of them, nor if
-- no write was left and the device is frail: then the files may have stopped already, and stopped files stay so.
abbrev pub SetsFuse : {V : Type 0} → (frail : Bool) → Node V → Fuse → ℕ → Fuse → Type 0
SetsFuse frail n before writes after = (after ≡ Some writes) ⊎ (((n.live ≡ None) ⊎ (IsTrue frail × (before ≡ Some 0))) × (after ≡ before))

-- The event's answer in this world, and the world after it.
pub data WorldAnswers (fmt : Format) (wire : Wire fmt) (old : FusedWorld) (e : WorldEvent) (a : Answer) (new : FusedWorld) : Type 0 where
  no_message : (k : ℕ) → e ≡ Delivers k → slice_get old.world.sent k ≡ None → a ≡ Declined 113 → new ≡ old → WorldAnswers fmt wire old e a new
  stop_shared : (writes : ℕ) (f : Fuse) → e ≡ Stops TheShared writes → SetsFuse old.frail old.world.shared old.shared_fuse writes f → a ≡ Did Stored
      → new ≡ record { world = old.world; frail = old.frail; shared_fuse = f; clone_fuses = old.clone_fuses } → WorldAnswers fmt wire old e a new
  stop_clone : (c : ℕ) (n : CloneNode) (writes : ℕ) (f : Fuse) → e ≡ Stops (TheClone c) writes → get old.world.clones c ≡ Some n → SetsFuse old.frail n (get old.clone_fuses c) writes f → a ≡ Did Stored
      → new ≡ record { world = old.world; frail = old.frail; shared_fuse = old.shared_fuse; clone_fuses = with_fuse old.clone_fuses c f } → WorldAnswers fmt wire old e a new
  at_shared : (c : ℕ) (i : SharedCall) (n : SharedNode) (sends : Option Message) (f : Fuse) → CallsShared fmt wire old.world e c i → SharedAnswers fmt wire.rules old.world.shared i a n sends
      → Burns old.frail (shared_fuse_at old.shared_fuse i) (MayShared fmt old.world.shared i) (TogetherAt old.world.shared i) old.world.shared.repository n.repository a f
      → new ≡ record { world = after_shared old.world c a n sends; frail = old.frail; shared_fuse = f; clone_fuses = old.clone_fuses } → WorldAnswers fmt wire old e a new
  at_clone : (c : ℕ) (n m : CloneNode) (i : CloneCall) (sends : Option Message) (f : Fuse) → get old.world.clones c ≡ Some n → CallsClone fmt wire old.world e c n i → CloneAnswers fmt wire.rules n i a m sends
      → Burns old.frail (clone_fuse_at (get old.clone_fuses c) i) (MayClone fmt wire.rules n i) ⊥ n.repository m.repository a f
      → new ≡ record { world = after_clone old.world c m sends; frail = old.frail; shared_fuse = old.shared_fuse; clone_fuses = with_fuse old.clone_fuses c f } → WorldAnswers fmt wire old e a new

-- ---- runs

pub record ExactMoment : Type 0 where
  pub event : WorldEvent
  pub answer : Answer
  pub world : FusedWorld

-- What happened, the newest first.
abbrev pub ExactHistory : Type 0
ExactHistory = List ExactMoment

abbrev pub fused_after : FusedWorld → ExactHistory → FusedWorld
fused_after start [] = start
fused_after start (m ∷ h) = m.world

abbrev pub ExactRun : (fmt : Format) → Wire fmt → FusedWorld → ExactHistory → Type 0
ExactRun fmt wire start [] = Unit {0}
ExactRun fmt wire start (m ∷ h) = WorldAnswers fmt wire (fused_after start h) m.event m.answer m.world × ExactRun fmt wire start h

-- The event brings the object: by forged bytes, or because a clone's order makes it.
abbrev pub BringsExactly : (fmt : Format) → Wire fmt → FusedWorld → WorldEvent → Object → Type 0
BringsExactly fmt wire w (Forges l) o = (m : Message) × wire.reads (bytes_of l) m × Carries m o
BringsExactly fmt wire w (Orders c order) o =
    (n : CloneNode) × (t : Task) × (get w.world.clones c ≡ Some n) × IsTaskOf fmt wire.rules n.repository order (Ok t) × Makes fmt wire.rules n.repository t o
BringsExactly fmt wire w _ o = ⊥

-- The object occurs at some moment of the run.
abbrev pub OccursExactly : (fmt : Format) → Wire fmt → FusedWorld → ExactHistory → Object → Type 0
OccursExactly fmt wire start [] o = OccursIn start.world o
OccursExactly fmt wire start (m ∷ h) o =
    OccursIn m.world.world o ⊎ (BringsExactly fmt wire (fused_after start h) m.event o ⊎ OccursExactly fmt wire start h o)

-- No two different objects that occur have one name.
pub record NoExactCollision (fmt : Format) (wire : Wire fmt) (start : FusedWorld) (h : ExactHistory) : Type 0 where
  pub unique : (o p : Object) → OccursExactly fmt wire start h o → OccursExactly fmt wire start h p → fmt.name_of o ≡ fmt.name_of p → o ≡ p

abbrev pub IsHonest : (fmt : Format) → Wire fmt → WorldEvent → Type 0
IsHonest fmt wire (Forges (FromShared c bytes)) = (m : Message) → ¬ wire.reads bytes m
IsHonest fmt wire _ = Unit {0}

-- What a clone receives was sent by the shared node, or is no message.
abbrev pub NothingForgedExactly : (fmt : Format) → Wire fmt → ExactHistory → Type 0
NothingForgedExactly fmt wire [] = Unit {0}
NothingForgedExactly fmt wire (m ∷ h) = IsHonest fmt wire m.event × NothingForgedExactly fmt wire h
