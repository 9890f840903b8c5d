-- The slots of the shared node, in which pushes are open.
use Rattle.std.specs.Prelude.{◌≤◌, ℕ, List, [], ◌∷◌, Option, Some, None, length, slice_get, unwrap_or}
use Rattle.std.specs.List.{All}
use Rattle.vc_fetch.specs.Advert.{IsName}
use Rattle.vc_object.specs.Lines.{IsId}
use Rattle.vc_push.specs.Push.{CommandText, max_commands}
use Rattle.vc_push_rules.specs.Session.{SessionText}

-- the push in a slot
abbrev pub slot_of : List (Option SessionText) → ℕ → Option SessionText
slot_of slots k = unwrap_or (slice_get slots k) None

-- all eight of them, and no push is open
abbrev pub free_slots : List (Option SessionText)
free_slots = None ∷ None ∷ None ∷ None ∷ None ∷ None ∷ None ∷ None ∷ []

-- A report can tell what becomes of the command: its name stands in one line, beside any reason, and its new id is one.
pub record IsTellable (c : CommandText) : Type 0 where
  pub name : IsName c.name
  pub short : length c.name ≤ 65434
  pub id : IsId c.new

pub record AreToldInOne (s : SessionText) : Type 0 where
  pub each : All IsTellable s.commands
  pub few : length s.commands ≤ max_commands

abbrev pub IsSlotTellable : Option SessionText → Type 0
IsSlotTellable None = Unit {0}
IsSlotTellable (Some s) = AreToldInOne s

-- each open push can be told of
abbrev pub AreTellable : List (Option SessionText) → Type 0
AreTellable slots = All IsSlotTellable slots
