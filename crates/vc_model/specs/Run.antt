-- Runs of the world, and what occurs in them.
use Rattle.std.specs.Prelude.{◌≡◌, ℕ, List, [], ◌∷◌, Some, ◌⊎◌, slice_get}
use Rattle.std.specs.FinMap.{get}
use Rattle.vc_model.specs.Object.{Object, blob, Format}
use Rattle.vc_model.specs.Push.{OpenPush, Slots}
use Rattle.vc_model.specs.Message.{Envelope, HasObject, Carries, message_of}
use Rattle.vc_model.specs.Message.Envelope.{ToClone}
use Rattle.vc_model.specs.Clone.{CloneNode, Task}
use Rattle.vc_model.specs.Clone.Task.{Write, Stage}
use Rattle.vc_model.specs.World.{World, Event, Step}
use Rattle.vc_model.specs.Node.{Answer}
use Rattle.vc_model.specs.World.Event.{Local, Forge}

-- An event, its answer, and the world after it.
pub record Moment : Type 0 where
  pub event : Event
  pub answer : Answer
  pub world : World

-- What happened, the newest first. What is left of it without some of its front is an earlier moment.
abbrev pub History : Type 0
History = List Moment

-- The world after the history.
abbrev pub world_after : World → History → World
world_after start [] = start
world_after start (m ∷ ms) = m.world

-- Events, answers and worlds follow one another.
abbrev pub Run : Format → World → History → Type 0
Run fmt start [] = Unit {0}
Run fmt start (m ∷ ms) = Step fmt (world_after start ms) m.event m.answer m.world × Run fmt start ms

-- The object is in some store, some open push or some message sent.
pub data OccursIn (w : World) (o : Object) : Type 0 where
  in_shared : HasObject w.shared.repository.objects o → OccursIn w o
  in_push : (slots : Slots) (s : ℕ) (p : OpenPush) → w.shared.live ≡ Some slots → get slots s ≡ Some p → HasObject p.carried o → OccursIn w o
  in_clone : (c : ℕ) (n : CloneNode) → get w.clones c ≡ Some n → HasObject n.repository.objects o → OccursIn w o
  in_message : (k : ℕ) (e : Envelope) → slice_get w.sent k ≡ Some e → Carries (message_of e) o → OccursIn w o

-- A local command brings the object.
abbrev pub BringsLocally : Task → Object → Type 0
BringsLocally (Write p) o = p ≡ o
BringsLocally (Stage path mode content) o = blob content ≡ o
BringsLocally _ o = ⊥

-- The event brings the object: by a forged message, or by a local command.
abbrev pub Brings : Event → Object → Type 0
Brings (Forge e) o = Carries (message_of e) o
Brings (Local c t) o = BringsLocally t o
Brings _ o = ⊥

-- The object occurs at some moment of the run.
abbrev pub Occurs : World → History → Object → Type 0
Occurs start [] o = OccursIn start o
Occurs start (m ∷ ms) o = OccursIn m.world o ⊎ (Brings m.event o ⊎ Occurs start ms o)

-- No two different objects that occur have one name.
pub record NoCollision (fmt : Format) (start : World) (h : History) : Type 0 where
  pub unique : (o p : Object) → Occurs start h o → Occurs start h p → fmt.name_of o ≡ fmt.name_of p → o ≡ p

-- What a clone receives was sent by the shared node.
abbrev pub NothingForged : Event → Type 0
NothingForged (Forge (ToClone c m)) = ⊥
NothingForged _ = Unit {0}

abbrev pub NothingForgedToClones : History → Type 0
NothingForgedToClones [] = Unit {0}
NothingForgedToClones (m ∷ ms) = NothingForged m.event × NothingForgedToClones ms
