-- The messages of the protocol, and who sends them to whom.
use Rattle.std.specs.Prelude.{◌≡◌, ℕ, Bool, List, Option, Some, Result}
use Rattle.std.specs.FinMap.{get}
use Rattle.vc_model.specs.Object.{Id, Object, Format, Objects, IsNamed}
use Rattle.vc_model.specs.Refs.{RefName, Refs}
use Rattle.vc_model.specs.Push.{Command}

-- What a report says of a command: its new id, or the number of the reason, which is 0 for a text that no reason has.
pub record Told : Type 0 where
  pub name : RefName
  pub outcome : Result Id ℕ

-- The most ids of each kind that a clone asks by, and the most commands that it pushes.
abbrev pub max_ids : ℕ
max_ids = 256

abbrev pub max_commands : ℕ
max_commands = 256

pub data Message : Type 0 where
  ListRefs : Message
  Advert : (head : Option Id) (refs : Refs) → Message
  Want : (wants haves : List Id) → Message
  -- ack: the first have that was counted
  Pack : (ack : Option Id) (objects : Objects) → Message
  -- fault: the refusal of the first carried body that is at fault
  Push : (atomic : Bool) (fault : Option ℕ) (commands : List Command) (objects : Objects) → Message
  -- fault: that of the push
  Report : (fault : Option ℕ) → List Told → Message
  Error : (text : List ℕ) → Message

pub data Envelope : Type 0 where
  ToShared : (from : ℕ) → Message → Envelope
  ToClone : (to : ℕ) → Message → Envelope

abbrev pub HasObject : Objects → Object → Type 0
HasObject s o = (x : Id) × (get s x ≡ Some o)

-- The object is carried by the message.
abbrev pub Carries : Message → Object → Type 0
Carries (Pack ack s) o = HasObject s o
Carries (Push atomic fault cs s) o = HasObject s o
Carries _ o = ⊥

-- The objects of a message stand under their own names.
abbrev pub IsNamedMessage : Format → Message → Type 0
IsNamedMessage fmt (Pack ack s) = IsNamed fmt s
IsNamedMessage fmt (Push atomic fault cs s) = IsNamed fmt s
IsNamedMessage fmt _ = Unit {0}

abbrev pub message_of : Envelope → Message
message_of (ToShared c m) = m
message_of (ToClone c m) = m
