-- The machine's world that a world holds, and what one event does.
use Rattle.std.specs.FinMap.{get, empty}
use Rattle.std.specs.Global.{Global}
use Rattle.std.specs.List.{AllByRecursion}
use Rattle.std.specs.Prelude.{◌≡◌, ◌<◌, ◌≤◌, ℕ, Bool, List, [], ◌∷◌, Option, Some, None, Vec, slice_get, unwrap_or, length, vec_len, vec_capacity}
use Rattle.vc_wire.proofs.WireLaws.{message_wire}
use Rattle.vc_message.specs.Machine.{IsWritten}
use Rattle.vc_model.specs.Clone.{CloneNode}
use Rattle.vc_model.specs.Clone.Awaited.{Nothing}
use Rattle.vc_model.specs.Exact.{IsUnfused}
use Rattle.vc_model.specs.ExactWorld.{FusedWorld, WorldAnswers, WorldEvent}
use Rattle.vc_model.specs.Message.{Envelope}
use Rattle.vc_model.specs.Message.Envelope.{ToClone, ToShared}
use Rattle.vc_model.specs.Node.{Answer}
use Rattle.vc_model.specs.Safe.{EveryNodeSound}
use Rattle.vc_model.specs.Shared.{SharedNode}
use Rattle.vc_model.specs.World.{IsNew, World as MachineWorld, empty_repository}
use Rattle.vc_rules.specs.Git.{git}
use Rattle.vc_events.specs.Answers.{IsAnswer}
use Rattle.vc_events.specs.Calls.{HasNoZero, Seen}
use Rattle.vc_events.specs.Events.{IsEnd}
use Rattle.vc_events.specs.declared.answers.Answer.{Answer as WorldAnswer}
use Rattle.vc_events.specs.declared.letters.Letter.{Letter}
use Rattle.vc_events.specs.declared.letters.Letter.TheVariants as letter
use Rattle.vc_events.specs.declared.world.World.{World}

-- a written message, with its other end
abbrev pub IsLetter : Letter → Envelope → Type 0
IsLetter (letter.ToShared c bytes) (ToShared d m) = (d ≡ c) × IsWritten m bytes.items
IsLetter (letter.ToClone c bytes) (ToClone d m) = (d ≡ c) × IsWritten m bytes.items
IsLetter (letter.ToShared c bytes) (ToClone d m) = ⊥
IsLetter (letter.ToClone c bytes) (ToShared d m) = ⊥

abbrev pub AreLetters : List Letter → List Envelope → Type 0
AreLetters [] [] = Unit {0}
AreLetters (l ∷ ls) (e ∷ es) = IsLetter l e × AreLetters ls es
AreLetters [] (e ∷ es) = ⊥
AreLetters (l ∷ ls) [] = ⊥

-- both are there, or neither
abbrev pub HoldsAt : {C : Type 0} → (C → CloneNode → Type 0) → Option C → Option CloneNode → Type 0
HoldsAt holds (Some c) (Some n) = holds c n
HoldsAt holds None None = Unit {0}
HoldsAt holds (Some c) None = ⊥
HoldsAt holds None (Some n) = ⊥

-- The machine's world that this one holds.
pub record HoldsWorld {S C : Type 0} (seen_shared : Seen S SharedNode) (seen_clone : Seen C CloneNode) (v : World S C) (w : FusedWorld) : Type 0 where
  pub shared : seen_shared.may_be w.frail v.shared w.world.shared
  pub clones : (c : ℕ) → HoldsAt (seen_clone.may_be w.frail) (slice_get v.clones.items c) (get w.world.clones c)
  pub letters : AreLetters v.letters.items w.world.sent
  pub senders : (s : ℕ) → unwrap_or (get w.world.senders s) 0 ≡ unwrap_or (slice_get v.senders s) 0
  pub shared_fuse : w.shared_fuse ≡ seen_shared.left v.shared
  pub clone_fuses : (c : ℕ) (x : C) → slice_get v.clones.items c ≡ Some x → get w.clone_fuses c ≡ seen_clone.left x
  pub ends : AllByRecursion (IsEnd (length v.clones.items)) v.letters.items
  pub known : (s : ℕ) → unwrap_or (slice_get v.senders s) 0 < length v.clones.items

-- no clone has an object whose name is the zero id
abbrev pub NoZeros : MachineWorld → Type 0
NoZeros w = (c : ℕ) (n : CloneNode) → get w.clones c ≡ Some n → HasNoZero n.repository

-- Whatever world was held, some world is held after the event; and if each node was sound, the answer and that world are the machine's.
pub record Steps {S C : Type 0} (seen_shared : Seen S SharedNode) (seen_clone : Seen C CloneNode) (old : World S C) (e : WorldEvent) (answer : WorldAnswer) (new : World S C) : Type 0 where
  pub each : (w : FusedWorld) → HoldsWorld seen_shared seen_clone old w
      → (v : FusedWorld) × (a : Answer) × HoldsWorld seen_shared seen_clone new v × IsAnswer w answer a
      × (EveryNodeSound git w.world → NoZeros w.world → WorldAnswers git message_wire w e a v)

-- the same world: its lists may have more room
pub record IsSame {S C : Type 0} (old new : World S C) : Type 0 where
  pub shared : new.shared ≡ old.shared
  pub clones : new.clones.items ≡ old.clones.items
  pub letters : new.letters.items ≡ old.letters.items
  pub senders : new.senders ≡ old.senders

-- no room is left in a list: for one item more it has to grow
abbrev pub IsFull : {X : Type 0} → Vec X Global → Type 0
IsFull v = vec_capacity v ≤ vec_len v

-- how many clones there are
abbrev pub clones_of : {S C : Type 0} → World S C → ℕ
clones_of v = vec_len v.clones

-- a node of a new world
abbrev pub fresh_shared : SharedNode
fresh_shared = record { repository = empty_repository; live = Some empty }

abbrev pub fresh_clone : CloneNode
fresh_clone = record { repository = empty_repository; live = Some Nothing }

-- the nodes are new, and no stop is set
pub record AreFresh {S C : Type 0} (seen_shared : Seen S SharedNode) (seen_clone : Seen C CloneNode) (frail : Bool) (shared : S) (clones : List C) : Type 0 where
  pub shared_new : seen_shared.may_be frail shared fresh_shared
  pub shared_unstopped : seen_shared.left shared ≡ None
  pub clones_new : AllByRecursion (λ c. seen_clone.may_be frail c fresh_clone) clones
  pub clones_unstopped : AllByRecursion (λ c. seen_clone.left c ≡ None) clones

-- A new world of n clones is held, over devices that are frail or not: the run of no events.
pub record IsNewWorld {S C : Type 0} (seen_shared : Seen S SharedNode) (seen_clone : Seen C CloneNode) (n : ℕ) (frail : Bool) (v : World S C) : Type 0 where
  pub start : FusedWorld
  pub is_new : IsNew start.world n
  pub frail_is : start.frail ≡ frail
  pub unfused : IsUnfused start
  pub held : HoldsWorld seen_shared seen_clone v start
