-- The push that is sent, as the machine has it: its message, or the number that refuses it.
use Rattle.std.specs.Prelude.{◌≤◌, ℕ, Bool, List, None, length, ⊤}
use Rattle.vc_sending.specs.Sending.{machine_items}
use Rattle.vc_sending.specs.declared.item.PushItem.{PushItem}
use Rattle.vc_sending.specs.declared.send_fault.SendFault.{SendFault}
use Rattle.vc_sending.specs.declared.send_fault.SendFault.TheVariants.{TooMany, Missing, Refs, Graph, Fault}
use Rattle.vc_files.specs.FileMap.{FileMap}
use Rattle.vc_graph.specs.declared.fault.GraphFault.TheVariants as graph
use Rattle.vc_message.specs.Machine.{IsWritten}
use Rattle.vc_model.specs.Clone as machine
use Rattle.vc_model.specs.Clone.{AreCommandsFor, IsItemId, IsTrackingValue}
use Rattle.vc_model.specs.CloneCall.{RefusesPush}
use Rattle.vc_model.specs.Message.Message.{Push}
use Rattle.vc_model.specs.Node.{IsDifference}
use Rattle.vc_model.specs.Object.{Id, Objects, stored, zero_id}
use Rattle.vc_model.specs.Push.{Command}
use Rattle.vc_model.specs.Reach.{IsClosed}
use Rattle.vc_model.specs.Repository.{IsSound, Repository}
use Rattle.vc_rules.specs.Git.{git}
use Rattle.vc_rules.specs.OpenPushes.{HoldsContent}
use Rattle.vc_push.specs.Push.{max_commands}

-- The machine's message, where nothing refuses the push: the bytes are how it is written.
pub record IsSentPush (r : Repository) (atomic : Bool) (items : List machine.PushItem) (bytes : List ℕ) : Type 0 where
  pub commands : List Command
  pub objects : Objects
  pub few : length items ≤ max_commands
  pub complete : (x : Id) → IsItemId items x → IsClosed git (stored r.objects) x
  pub commands_are : AreCommandsFor r.refs items commands
  pub objects_are : IsDifference git r.objects (IsItemId items) (IsTrackingValue r.refs) objects
  pub written : IsWritten (Push atomic None commands objects) bytes

-- Whatever repository is held. Zero is no object's name, but nothing of the machine says so: an item with that id would be written
-- as a deletion, which brings no objects.
abbrev pub SendsPush : FileMap → Bool → List PushItem → List ℕ → Type 0
SendsPush content atomic items bytes = (r : Repository) → HoldsContent content r → ¬ IsItemId (machine_items items) zero_id → IsSentPush r atomic (machine_items items) bytes

-- the machine refuses the push with this number, whatever repository is held
abbrev pub IsDeclined : FileMap → List PushItem → ℕ → Type 0
IsDeclined content items n = (r : Repository) → HoldsContent content r → RefusesPush git r (machine_items items) n

-- So it does where a push is refused for what it asks; and a tracking ref that reaches an absent object is none of a sound repository.
abbrev pub DeclinesPush : FileMap → List PushItem → SendFault → Type 0
DeclinesPush content items TooMany = IsDeclined content items 84
DeclinesPush content items (Missing id) = IsDeclined content items 40
DeclinesPush content items (Refs fault) = ⊤
DeclinesPush content items (Graph (graph.Missing id)) = (r : Repository) → HoldsContent content r → ¬ IsSound git r
DeclinesPush content items (Graph (graph.Store fault)) = ⊤
DeclinesPush content items (Fault fault) = ⊤
