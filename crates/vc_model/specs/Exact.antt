-- The laws of the exact relation: an exact answer is a step of the machine, and there is one answer.
use Rattle.std.specs.Prelude.{◌≡◌, ◌≢◌, ℕ, [], ◌∷◌, ◌++◌, Option, Some, None, Ok, ◌⊎◌, false}
use Rattle.std.specs.FinMap.{get}
use Rattle.vc_model.specs.Object.{Object, Format}
use Rattle.vc_model.specs.Repository.{Repository, IsSound}
use Rattle.vc_model.specs.Message.{Message}
use Rattle.vc_model.specs.Message.Envelope.{ToShared, ToClone}
use Rattle.vc_model.specs.Node.{Answer, IsNoFault}
use Rattle.vc_model.specs.Node.Answer.{Fault}
use Rattle.vc_model.specs.Node.Failure.{Device}
use Rattle.vc_model.specs.Clone.{CloneNode, Task, CloneEvent, CloneStep}
use Rattle.vc_model.specs.Shared.{SharedNode, SharedEvent, SharedStep}
use Rattle.vc_model.specs.Shared.SharedEvent.{Arrives, StepSlot, PruneShared, RestartShared, QuietShared}
use Rattle.vc_model.specs.Clone.CloneEvent.{Commanded, Gets, PruneClone, RestartClone, QuietClone}
use Rattle.vc_model.specs.World.{Event, IsNew, StartsSound}
use Rattle.vc_model.specs.World.Event.{Local, Deliver, Forge, StepPush, Prune as PruneAt, Restart, Stop, Ask, PackRefs, Noise}
use Rattle.vc_model.specs.World.Party.{TheShared, TheClone}
use Rattle.vc_model.specs.Run.{History, Run, NoCollision}
use Rattle.vc_model.specs.Safe.{IsSafe, EveryNodeSound}
use Rattle.vc_model.specs.Order.{IsTaskOf}
use Rattle.vc_model.specs.ExactWorld.{FusedWorld, WorldEvent, ComesAs, ExactMoment, ExactHistory, fused_after, ExactRun, WorldAnswers, NoExactCollision, NothingForgedExactly}
use Rattle.vc_model.specs.ExactWorld.Letter.{FromClone, FromShared}
use Rattle.vc_model.specs.ExactWorld.WorldEvent.{Orders, Delivers, Forges, Steps, Compares, Prunes, Packs, Restarts, Stops}
use Rattle.vc_model.specs.Rules.{Rules, Tests, rules_by}
use Rattle.vc_model.specs.Wire.{Wire, WireTests, wire_by}
use Rattle.vc_model.specs.CloneCall.{CloneCall, CloneAnswers, Makes}
use Rattle.vc_model.specs.CloneCall.CloneCall.{Command, Receive, Asks, Prune, Open}
use Rattle.vc_model.specs.SharedCall.{SharedCall, SharedAnswers}
use Rattle.vc_model.specs.SharedCall.SharedCall.{Accept, StepOf, Asks as AsksShared, Prune as PruneIt, Open as OpenIt}

-- the machine's event of the call
abbrev pub clone_event : CloneCall → CloneEvent
clone_event (Command t) = Commanded t
clone_event (Receive m) = Gets m
clone_event (Asks q) = QuietClone
clone_event Prune = PruneClone
clone_event Open = RestartClone

-- What the command makes is what is stored under its name, and no two objects that it makes have one name.
pub record MadeFit (fmt : Format) (rules : Rules fmt) (r : Repository) (t : Task) : Type 0 where
  pub stored : (o p : Object) → Makes fmt rules r t o → get r.objects (fmt.name_of o) ≡ Some p → o ≡ p
  pub apart : (o p : Object) → Makes fmt rules r t o → Makes fmt rules r t p → fmt.name_of o ≡ fmt.name_of p → o ≡ p

abbrev pub CallFits : (fmt : Format) → Rules fmt → Repository → CloneCall → Type 0
CallFits fmt rules r (Command t) = MadeFit fmt rules r t
CallFits fmt rules r _ = Unit {0}

-- An exact answer of a sound clone is a step of the machine, where what its command makes collides with nothing there.
abbrev pub CloneAnswerIsStep : Type 0
CloneAnswerIsStep = (fmt : Format) (tests : Tests fmt) (old new : CloneNode) (e : CloneCall) (a : Answer) (sends : Option Message) →
    IsSound fmt old.repository → CallFits fmt (rules_by fmt tests) old.repository e → CloneAnswers fmt (rules_by fmt tests) old e a new sends →
    CloneStep fmt old (clone_event e) a new sends

-- But for faults, a clone has one answer to a call, goes to one node, and sends one message or none.
abbrev pub CloneHasOneAnswer : Type 0
CloneHasOneAnswer = (fmt : Format) (tests : Tests fmt) (old m n : CloneNode) (e : CloneCall) (a b : Answer) (s t : Option Message) →
    CloneAnswers fmt (rules_by fmt tests) old e a m s → CloneAnswers fmt (rules_by fmt tests) old e b n t → IsNoFault a → IsNoFault b →
    (a ≡ b) × (m ≡ n) × (s ≡ t)

-- the machine's event of the call
abbrev pub shared_event : SharedCall → SharedEvent
shared_event (Accept m) = Arrives m
shared_event (StepOf s) = StepSlot s
shared_event (AsksShared q) = QuietShared
shared_event PruneIt = PruneShared
shared_event OpenIt = RestartShared

-- An exact answer of the shared node is a step of the machine.
abbrev pub SharedAnswerIsStep : Type 0
SharedAnswerIsStep = (fmt : Format) (tests : Tests fmt) (old new : SharedNode) (e : SharedCall) (a : Answer) (sends : Option Message) →
    SharedAnswers fmt (rules_by fmt tests) old e a new sends → SharedStep fmt old (shared_event e) a new sends

-- But for faults, the shared node has one answer to a call, goes to one node, and sends one message or none.
abbrev pub SharedHasOneAnswer : Type 0
SharedHasOneAnswer = (fmt : Format) (tests : Tests fmt) (old m n : SharedNode) (e : SharedCall) (a b : Answer) (s t : Option Message) →
    SharedAnswers fmt (rules_by fmt tests) old e a m s → SharedAnswers fmt (rules_by fmt tests) old e b n t → IsNoFault a → IsNoFault b →
    (a ≡ b) × (m ≡ n) × (s ≡ t)

-- The machine's event: an order is the local command that it comes to, or, where an expression has no value or reading it is cut
-- short, changes nothing; forged bytes are the message that they are, or change nothing.
abbrev pub IsPlain : (fmt : Format) → Wire fmt → FusedWorld → WorldEvent → Event → Type 0
IsPlain fmt wire w (Orders c o) e =
    ((n : CloneNode) × (t : Task) × (get w.world.clones c ≡ Some n) × IsTaskOf fmt wire.rules n.repository o (Ok t) × (e ≡ Local c t)) ⊎ (e ≡ Noise (TheClone c))
IsPlain fmt wire w (Delivers k) e = e ≡ Deliver k
IsPlain fmt wire w (Forges (FromClone c bytes)) e = ComesAs fmt wire bytes (λ m. Forge (ToShared c m)) (λ n. Noise TheShared) e
IsPlain fmt wire w (Forges (FromShared c bytes)) e = ComesAs fmt wire bytes (λ m. Forge (ToClone c m)) (λ n. Noise (TheClone c)) e
IsPlain fmt wire w (Steps s) e = e ≡ StepPush s
IsPlain fmt wire w (Compares p x y) e = e ≡ Ask p x y
IsPlain fmt wire w (Prunes p) e = e ≡ PruneAt p
IsPlain fmt wire w (Packs p) e = e ≡ PackRefs p
IsPlain fmt wire w (Restarts p) e = e ≡ Restart p
IsPlain fmt wire w (Stops p n) e = e ≡ Stop p n

-- The history of the machine has the same answers and worlds, moment by moment.
abbrev pub Shadows : (fmt : Format) → Wire fmt → FusedWorld → ExactHistory → History → Type 0
Shadows fmt wire start [] [] = Unit {0}
Shadows fmt wire start (m ∷ h) (n ∷ k) = (n.answer ≡ m.answer) × (n.world ≡ m.world.world) × IsPlain fmt wire (fused_after start h) m.event n.event × Shadows fmt wire start h k
Shadows fmt wire start [] (n ∷ k) = ⊥
Shadows fmt wire start (m ∷ h) [] = ⊥

-- An exact run is a run of the machine.
abbrev pub ExactRunIsRun : Type 0
ExactRunIsRun = (fmt : Format) (tests : WireTests fmt) (start : FusedWorld) (h : ExactHistory) →
    StartsSound fmt start.world → ExactRun fmt (wire_by fmt tests) start h → NoExactCollision fmt (wire_by fmt tests) start h →
    (k : History) × Shadows fmt (wire_by fmt tests) start h k × Run fmt start.world k × NoCollision fmt start.world k

-- So an exact run of a new world is safe.
abbrev pub ExactRunIsSafe : Type 0
ExactRunIsSafe = (fmt : Format) (tests : WireTests fmt) (n : ℕ) (start : FusedWorld) (h : ExactHistory) →
    IsNew start.world n → ExactRun fmt (wire_by fmt tests) start h → NoExactCollision fmt (wire_by fmt tests) start h → NothingForgedExactly fmt (wire_by fmt tests) h →
    (k : History) × Shadows fmt (wire_by fmt tests) start h k × IsSafe fmt start.world k

-- no writes left are set anywhere
pub record IsUnfused (w : FusedWorld) : Type 0 where
  pub shared : w.shared_fuse ≡ None
  pub clones : (c : ℕ) → get w.clone_fuses c ≡ None

-- the event sets no stop
abbrev pub IsNoStop : WorldEvent → Type 0
IsNoStop (Stops p n) = ⊥
IsNoStop _ = Unit {0}

abbrev pub NoStops : ExactHistory → Type 0
NoStops [] = Unit {0}
NoStops (m ∷ h) = IsNoStop m.event × NoStops h

-- But for stops and faults, an event has one answer and leads to one world.
abbrev pub WorldHasOneAnswer : Type 0
WorldHasOneAnswer = (fmt : Format) (tests : WireTests fmt) (old m n : FusedWorld) (e : WorldEvent) (a b : Answer) → IsUnfused old → IsNoStop e →
    WorldAnswers fmt (wire_by fmt tests) old e a m → WorldAnswers fmt (wire_by fmt tests) old e b n → IsNoFault a → IsNoFault b → (a ≡ b) × (m ≡ n)

-- Where no stop was ever set, a device that is not frail never fails.
abbrev pub DeviceNeedsAStop : Type 0
DeviceNeedsAStop = (fmt : Format) (tests : WireTests fmt) (start : FusedWorld) (m : ExactMoment) (h : ExactHistory) →
    start.frail ≡ false → IsUnfused start → NoStops (m ∷ h) → ExactRun fmt (wire_by fmt tests) start (m ∷ h) → m.answer ≢ Fault Device

-- At each moment of an exact run from sound nodes every node is sound.
abbrev pub ExactRunStaysSound : Type 0
ExactRunStaysSound = (fmt : Format) (tests : WireTests fmt) (start : FusedWorld) (late early : ExactHistory) →
    StartsSound fmt start.world → ExactRun fmt (wire_by fmt tests) start (late ++ early) → NoExactCollision fmt (wire_by fmt tests) start (late ++ early) →
    EveryNodeSound fmt (fused_after start early).world

-- A node that a stop left no more writes stores what it stored.
abbrev pub NoWriteIsLeft : Type 0
NoWriteIsLeft = (fmt : Format) (tests : WireTests fmt) (old new : FusedWorld) (e : WorldEvent) (a : Answer) → WorldAnswers fmt (wire_by fmt tests) old e a new →
    (old.shared_fuse ≡ Some 0 → new.world.shared.repository ≡ old.world.shared.repository)
    × ((c : ℕ) (n m : CloneNode) → get old.clone_fuses c ≡ Some 0 → get old.world.clones c ≡ Some n → get new.world.clones c ≡ Some m → m.repository ≡ n.repository)
