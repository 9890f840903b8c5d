-- Why a message has no reply.
use Rattle.std.specs.Prelude.{◌≡◌, ◌⊎◌, ℕ, List, Option}
use Rattle.vc_files.specs.FileMap.{FileMap}
use Rattle.vc_message.specs.AnyMessage.{MessageText}
use Rattle.vc_local.specs.Clean.{StaysClean}
use Rattle.vc_local.specs.declared.fault.NodeFault.TheVariants.{Down}
use Rattle.vc_push_rules.specs.Session.{SessionText}
use Rattle.vc_shared.specs.Accepting.{IsRefusedBytes, IsRefusedMessage}
use Rattle.vc_shared.specs.Stepping.{IsRefusedIn}
use Rattle.vc_shared.specs.declared.fault.SharedFault.{SharedFault}
use Rattle.vc_shared.specs.declared.fault.SharedFault.TheVariants.{Node}

-- a step is refused over files of which none is bad that was not so before, or the node is down
abbrev pub IsRefusedOnTheWay : FileMap → SharedFault → Type 0
IsRefusedOnTheWay old e = (content : FileMap) × (slot : Option SessionText) × StaysClean old content × ((e ≡ Node Down) ⊎ IsRefusedIn content slot e)

-- what came is refused, or a step of the push that it opened
abbrev pub IsRefusedFor : (SharedFault → Type 0) → FileMap → SharedFault → Type 0
IsRefusedFor Refuses old e = (e ≡ Node Down) ⊎ (Refuses e ⊎ IsRefusedOnTheWay old e)

-- where bytes came
abbrev pub IsRefusedAnswer : FileMap → List (Option SessionText) → List ℕ → SharedFault → Type 0
IsRefusedAnswer old slots bytes e = IsRefusedFor (IsRefusedBytes old slots bytes) old e

-- where a message came that was read
abbrev pub IsRefusedMessageAnswer : FileMap → List (Option SessionText) → MessageText → SharedFault → Type 0
IsRefusedMessageAnswer old slots text e = IsRefusedFor (IsRefusedMessage old slots text) old e
