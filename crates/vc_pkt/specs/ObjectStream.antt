-- Object streams.
use Rattle.std.specs.Prelude.{◌≡◌, ◌≢◌, ◌≤◌, ℕ, Bool, true, List, [], ◌∷◌, ◌++◌, length, Option, Some, None, Result, Ok, Err, nat_lt, if◌then◌else◌}
use Rattle.vc_object.specs.Decoding.{StoredObject}
use Rattle.vc_object.specs.declared.kind.Kind.{Kind}
use Rattle.vc_object.specs.Object.{max_body}
use Rattle.vc_pkt.specs.Line.{LineText, flush, text}
use Rattle.vc_pkt.specs.Message.{Stepped, onward, complete, Steps}
use Rattle.vc_pkt.specs.ObjectLine.{IsObjectLine, object_line}
use Rattle.vc_pkt.specs.Carried.{with_object, with_objects}
use Rattle.vc_pkt.specs.declared.fault.PktFault.{PktFault}
use Rattle.vc_pkt.specs.declared.fault.PktFault.TheVariants.{BadRecord, SizeMismatch, TooLarge}

-- data lines, none of them empty, that are together these bytes
abbrev pub IsData : List LineText → List ℕ → Type 0
IsData [] bytes = bytes ≡ []
IsData (flush ∷ lines) bytes = ⊥
IsData (text piece ∷ lines) bytes = (piece ≢ []) × ((more : List ℕ) × IsData lines more × (bytes ≡ piece ++ more))

-- an object's line and the data lines of its body
pub record IsObjectLines (object : StoredObject) (lines : List LineText) : Type 0 where
  pub first : List ℕ
  pub body : List LineText
  pub begins : IsObjectLine object.kind (length object.body) first
  pub small : length object.body ≤ max_body
  pub pieces : IsData body object.body
  pub whole : lines ≡ text first ∷ body

module _ (IsTaken : StoredObject → Bool) where
  -- the lines of each object, all of them such as are taken, and at the end a flush
  abbrev pub IsStream : List StoredObject → List LineText → Type 0
  IsStream [] lines = lines ≡ flush ∷ []
  IsStream (object ∷ objects) lines =
      (these others : List LineText) × IsObjectLines object these × (IsTaken object ≡ true) × IsStream objects others × (lines ≡ these ++ others)

  -- the lines are a stream of objects, whose set by name it is
  pub record SpellsSet (set : List StoredObject) (lines : List LineText) : Type 0 where
    pub objects : List StoredObject
    pub stream : IsStream objects lines
    pub once : set ≡ with_objects [] objects

-- a stream of any objects
abbrev pub is_any : StoredObject → Bool
is_any object = true

-- the lines of an object stream, which carries the objects, sorted by name, each once
abbrev pub SpellsObjects : List StoredObject → List LineText → Type 0
SpellsObjects set lines = SpellsSet is_any set lines

-- what was read of a stream: between two objects, or inside one, whose line has the number: fewer bytes
-- than its size
pub data Progress : Type 0 where
  between : Progress
  inside : ℕ → Kind → ℕ → List ℕ → Progress

-- what a line does: more is to come, the object of the line of a number is full, or the stream ends
pub data ObjectStepped : Type 0 where
  going_on : Progress → ObjectStepped
  full : ℕ → StoredObject → ObjectStepped
  over : ObjectStepped

-- an object's bytes so far
abbrev pub so_far : ℕ → Kind → ℕ → List ℕ → Result ObjectStepped PktFault
so_far first kind size body =
    if nat_lt size (length body) then Err SizeMismatch
    else if nat_lt (length body) size then Ok (going_on (inside first kind size body))
    else Ok (full first (record { kind = kind; body = body }))

abbrev pub begun : ℕ → Option (Kind × ℕ) → Result ObjectStepped PktFault
begun number None = Err (BadRecord number)
begun number (Some found) = if nat_lt max_body found.1 then Err TooLarge else so_far number found.0 found.1 []

-- what the line of a number does
abbrev pub object_step : ℕ → Progress → LineText → Result ObjectStepped PktFault
object_step number between flush = Ok over
object_step number between (text line) = begun number (object_line line)
object_step number (inside first kind size body) flush = Err SizeMismatch
object_step number (inside first kind size body) (text []) = Err (BadRecord number)
object_step number (inside first kind size body) (text (b ∷ bs)) = so_far first kind size (body ++ b ∷ bs)

-- what was gathered so far, and where the stream stands
pub record Gathered (A : Type 0) : Type 0 where
  pub set : A
  pub progress : Progress

-- a stream whose objects are gathered one by one, `add` saying what each adds to those before
module _ {A : Type 0} (add : StoredObject → A → A) (IsTaken : StoredObject → Bool) where
  -- an object that isn't taken is a fault of its line
  abbrev pub gather_stepped : A → Result ObjectStepped PktFault → Result (Stepped (Gathered A) A) PktFault
  gather_stepped set (Err fault) = Err fault
  gather_stepped set (Ok (going_on progress)) = Ok (onward (record { set = set; progress = progress }))
  gather_stepped set (Ok (full first object)) = if IsTaken object then Ok (onward (record { set = add object set; progress = between })) else Err (BadRecord first)
  gather_stepped set (Ok over) = Ok (complete set)

  abbrev pub gather_step : Steps (Gathered A) A
  gather_step number s line = gather_stepped s.set (object_step number s.progress line)

-- what is gathered with these objects too, the first of them first
abbrev pub gather_all : {A : Type 0} → (StoredObject → A → A) → A → List StoredObject → A
gather_all add set [] = set
gather_all add set (o ∷ os) = gather_all add (add o set) os

-- the set so far, and where the stream stands
abbrev pub SetState : Type 0
SetState = Gathered (List StoredObject)

-- objects gathered as a set by name
abbrev pub set_step : (StoredObject → Bool) → Steps SetState (List StoredObject)
set_step IsTaken = gather_step with_object IsTaken

abbrev pub no_objects : SetState
no_objects = record { set = []; progress = between }
