-- Runs of a world: each that ends at the world before is lengthened to one that ends at the world after.
use Rattle.std.specs.Global.{Global}
use Rattle.std.specs.List.{AllByRecursion}
use Rattle.std.specs.Prelude.{◌≡◌, ◌≢◌, ℕ, Bool, List, [], ◌∷◌, ◌++◌, Result, Ok, Err, Vec, map, take, vec_len}
use Rattle.vc_wire.proofs.WireLaws.{message_wire}
use Rattle.vc_model.specs.Clone.{CloneNode}
use Rattle.vc_model.specs.Exact.{Shadows}
use Rattle.vc_model.specs.ExactWorld.{ExactHistory, ExactMoment, ExactRun, FusedWorld, NoExactCollision, NothingForgedExactly, OccursExactly, WorldAnswers, fused_after}
use Rattle.vc_model.specs.Object.{Object, zero_id}
use Rattle.vc_model.specs.Run.{History}
use Rattle.vc_model.specs.Safe.{IsGuarded, IsSafe}
use Rattle.vc_model.specs.Shared.{SharedNode}
use Rattle.vc_model.specs.World.{IsNew, StartsSound}
use Rattle.vc_rules.specs.Git.{git}
use Rattle.vc_events.specs.Answers.{IsAnswer}
use Rattle.vc_events.specs.Calls.{Seen}
use Rattle.vc_events.specs.Events.{event_of}
use Rattle.vc_events.specs.World.{HoldsWorld, IsNewWorld, Steps}
use Rattle.vc_events.specs.declared.answers.Answer.{Answer as WorldAnswer}
use Rattle.vc_events.specs.declared.answers.Answer.TheVariants.{Refused}
use Rattle.vc_events.specs.declared.events.Event.{Event}
use Rattle.vc_events.specs.declared.events.Event.TheVariants.{Deliver, Forge}
use Rattle.vc_events.specs.declared.letters.Letter.TheVariants.{ToClone}
use Rattle.vc_events.specs.declared.world.World.{World}

-- ---- what was done

-- the events that a run did, and what it answered to them
abbrev pub done_of : List Event → Result (Vec WorldAnswer Global) (Vec WorldAnswer Global) → List Event
done_of events (Ok answers) = events
done_of events (Err answers) = take (vec_len answers) events

abbrev pub said_of : Result (Vec WorldAnswer Global) (Vec WorldAnswer Global) → List WorldAnswer
said_of (Ok answers) = answers.items
said_of (Err answers) = answers.items

-- ---- runs

-- The one premise: no two different objects that occur in the run have one name, and none is named by the zero id.
pub record AreApart (start : FusedWorld) (h : ExactHistory) : Type 0 where
  pub names : NoExactCollision git message_wire start h
  pub zero : (o : Object) → OccursExactly git message_wire start h o → git.name_of o ≢ zero_id

-- The moment is the next after h: of this event, with the machine's answer that is told so. Its world is the machine's after that
-- answer. The premise of this is on what occurred before the moment, and nothing of that is left to choose.
pub record IsNext (start : FusedWorld) (h : ExactHistory) (e : Event) (a : WorldAnswer) (m : ExactMoment) : Type 0 where
  pub event : m.event ≡ event_of e
  pub answer : IsAnswer (fused_after start h) a m.answer
  pub step : AreApart start h → WorldAnswers git message_wire (fused_after start h) m.event m.answer m.world

-- The history k is h and then these events with these answers.
abbrev pub IsLengthened : FusedWorld → ExactHistory → List Event → List WorldAnswer → ExactHistory → Type 0
IsLengthened start h [] [] k = k ≡ h
IsLengthened start h (e ∷ es) (a ∷ said) k = (m : ExactMoment) × IsNext start h e a m × IsLengthened start (m ∷ h) es said k
IsLengthened start h [] (a ∷ said) k = ⊥
IsLengthened start h (e ∷ es) [] k = ⊥

-- Every run that ends at the world before is lengthened by these events and answers to one that ends at the world after.
pub record Lengthens {S C : Type 0} (seen_shared : Seen S SharedNode) (seen_clone : Seen C CloneNode) (old : World S C) (es : List Event) (said : List WorldAnswer) (new : World S C) : Type 0 where
  pub each : (start : FusedWorld) (h : ExactHistory) → StartsSound git start.world → ExactRun git message_wire start h
      → HoldsWorld seen_shared seen_clone old (fused_after start h)
      → (k : ExactHistory) × IsLengthened start h es said k × HoldsWorld seen_shared seen_clone new (fused_after start k)
      × (AreApart start k → ExactRun git message_wire start k)

-- The headline. Every run of a new world that ends at the world before is lengthened by these events and answers to one that ends
-- at the world after: a run in which each node answers by the written rules, and a guarded one; and if nobody forged what a clone received,
-- a safe one.
pub record RunsSafely {S C : Type 0} (seen_shared : Seen S SharedNode) (seen_clone : Seen C CloneNode) (old : World S C) (es : List Event) (said : List WorldAnswer) (new : World S C) : Type 0 where
  pub each : (n : ℕ) (start : FusedWorld) (h : ExactHistory) → IsNew start.world n → ExactRun git message_wire start h
      → HoldsWorld seen_shared seen_clone old (fused_after start h)
      → (k : ExactHistory) × IsLengthened start h es said k × HoldsWorld seen_shared seen_clone new (fused_after start k)
      × (AreApart start k → ExactRun git message_wire start k
      × ((p : History) × Shadows git message_wire start k p × IsGuarded git start.world p × (NothingForgedExactly git message_wire k → IsSafe git start.world p)))

-- one event more, and its answer after the others
pub record GoesOn {S C : Type 0} (seen_shared : Seen S SharedNode) (seen_clone : Seen C CloneNode) (before after : List WorldAnswer) (old : World S C) (e : Event) (new : World S C) : Type 0 where
  pub answer : WorldAnswer
  pub said : after ≡ before ++ answer ∷ []
  pub steps : Steps seen_shared seen_clone old (event_of e) answer new

-- Every run of a new world is safe.
abbrev pub EveryRunIsSafe : Type 0
EveryRunIsSafe = (n : ℕ) (start : FusedWorld) (h : ExactHistory) → IsNew start.world n → ExactRun git message_wire start h → NoExactCollision git message_wire start h → NothingForgedExactly git message_wire h →
    (p : History) × Shadows git message_wire start h p × IsSafe git start.world p

-- the event brings no clone bytes that the shared node did not send
abbrev pub IsSent : Event → Type 0
IsSent (Forge (ToClone to bytes)) = ⊥
IsSent _ = Unit {0}

-- A run in which nothing was forged, lengthened by such events, is one still.
abbrev pub ForgesNothing : Type 0
ForgesNothing = (start : FusedWorld) (h k : ExactHistory) (es : List Event) (said : List WorldAnswer) → AllByRecursion IsSent es → NothingForgedExactly git message_wire h → IsLengthened start h es said k →
    NothingForgedExactly git message_wire k

-- In a new world no message was sent. So a run that is told of it answers each delivery with 113, however many there are: a run is
-- bound at each of its events, and not at the first alone.
abbrev pub NeverSentIsRefused : {S C : Type 0} → Seen S SharedNode → Seen C CloneNode → Type 0
NeverSentIsRefused {S} {C} seen_shared seen_clone = (n : ℕ) (frail : Bool) (old new : World S C) (messages : List ℕ) (said : List WorldAnswer) → IsNewWorld seen_shared seen_clone n frail old →
    RunsSafely seen_shared seen_clone old (map Deliver messages) said new → said ≡ map (λ _. Refused 113) messages
