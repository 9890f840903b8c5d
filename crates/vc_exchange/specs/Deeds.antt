-- What a clone makes of a message, as the machine has it: the deed, done whole, or cut short by a fault.
use Rattle.std.specs.Prelude.{◌≡◌, ◌≢◌, Option}
use Rattle.vc_files.specs.FileMap.{FileMap}
use Rattle.vc_format.specs.Git.{bytes_of_id}
use Rattle.vc_model.specs.Clone.{Awaited, Receives}
use Rattle.vc_model.specs.Message.{Message}
use Rattle.vc_model.specs.Node.{Deed, Reply}
use Rattle.vc_model.specs.Repository.{Done, Effect, IsSound, Repository, StopsWithin, no_effect}
use Rattle.vc_model.specs.Shared as machine
use Rattle.vc_refs.specs.Head.{head_of, head_value}
use Rattle.vc_refs.specs.Refs.{refs}
use Rattle.vc_rules.specs.Git.{git}
use Rattle.vc_rules.specs.OpenPushes.{HoldsContent}
use Rattle.std.specs.Prelude.{option_map}

-- the repository's HEAD leads where the files' HEAD does
abbrev pub HoldsHead : FileMap → Repository → Type 0
HoldsHead content r = option_map bytes_of_id (head_value (refs content) (head_of content)) ≡ machine.head_value r

-- The clone has received the message: the files hold what this deed leaves, and over a sound repository the machine's clone may
-- do it.
pub record IsReceived (r : Repository) (awaits : Awaited) (m : Message) (new : FileMap) (left : Awaited) (sends : Option Message) (reply : Reply) : Type 0 where
  pub effect : Effect
  pub after : Repository
  pub receives : IsSound git r → Receives git r awaits m (record { effect = effect; left = left; sends = sends; reply = reply })
  pub done : Done r effect after
  pub content : HoldsContent new after
  pub head : after.head ≡ r.head
  pub index : after.index ≡ r.index

-- The files hold what a stop leaves of a deed that sends nothing, which over a sound repository the machine's clone may do.
pub record IsPartlyReceived (r : Repository) (awaits : Awaited) (m : Message) (new : FileMap) : Type 0 where
  pub deed : Deed Awaited
  pub after : Repository
  pub receives : IsSound git r → Receives git r awaits m deed
  pub stops : StopsWithin r deed.effect after
  pub content : HoldsContent new after
  pub head : after.head ≡ r.head
  pub index : after.index ≡ r.index

-- nothing was done, or some of it
pub data IsCutShort (r : Repository) (awaits : Awaited) (m : Message) (new : FileMap) : Type 0 where
  at_first : HoldsContent new r → IsCutShort r awaits m new
  within : IsPartlyReceived r awaits m new → IsCutShort r awaits m new

-- the machine's clone may do something to what is stored
abbrev pub ChangesAt : Repository → Awaited → Message → Type 0
ChangesAt r awaits m = (d : Deed Awaited) × Receives git r awaits m d × (d.effect ≢ no_effect)
