-- What a fault is of that ends the taking of a message from a reader, and which are no refusals.
use Rattle.std.specs.Prelude.{◌≡◌, Bool, false, not, true, Result, Ok, Err, IsErrAnd}
use Rattle.vc_files.specs.declared.faults.Fault.TheVariants.{Memory}
use Rattle.vc_message.specs.declared.incoming_fault.IncomingFault.{IncomingFault}
use Rattle.vc_message.specs.declared.incoming_fault.IncomingFault.TheVariants as incoming
use Rattle.vc_node.specs.CloneFaults.{IsOfDevice as IsNodeDevice, is_fault as is_node_fault, of_device, takes_down as node_takes_down}
use Rattle.vc_node.specs.declared.clone_fault.CloneFault.{CloneFault}
use Rattle.vc_node.specs.declared.clone_fault.CloneFault.TheVariants.{Unread}
use Rattle.vc_node.specs.declared.receive_fault.ReceiveFault.{ReceiveFault}
use Rattle.vc_node.specs.declared.receive_fault.ReceiveFault.TheVariants.{Node, ReadFailed}

-- why no message came, as the node tells it
abbrev pub of_incoming : IncomingFault → ReceiveFault
of_incoming incoming.Memory = Node (of_device Memory)
of_incoming incoming.Failed = ReadFailed
of_incoming (incoming.Unread fault) = Node (Unread fault)

-- it is no refusal
abbrev pub is_fault : ReceiveFault → Bool
is_fault ReadFailed = false
is_fault (Node fault) = is_node_fault fault

-- a file of the clone's own that is damaged or gone, or a fault
abbrev pub takes_down : ReceiveFault → Bool
takes_down ReadFailed = false
takes_down (Node fault) = node_takes_down fault

abbrev pub IsOfDevice : ReceiveFault → Type 0
IsOfDevice ReadFailed = ⊥
IsOfDevice (Node fault) = IsNodeDevice fault

-- the call tells a fault of the device
abbrev pub TellsDevice : {T : Type 0} → Result T ReceiveFault → Type 0
TellsDevice result = IsErrAnd result IsOfDevice

-- whether the node is up after a call
abbrev pub up_after : {T : Type 0} → Result T ReceiveFault → Bool
up_after (Ok x) = true
up_after (Err e) = not (takes_down e)

-- whether the call ended in a fault
abbrev pub ends_in_fault : {T : Type 0} → Result T ReceiveFault → Bool
ends_in_fault (Ok x) = false
ends_in_fault (Err e) = is_fault e

-- what a node tells of a message is told of it if a reader brought it
abbrev pub told_of : {T : Type 0} → Result T CloneFault → Result T ReceiveFault
told_of (Ok x) = Ok x
told_of (Err e) = Err (Node e)

-- this holds, unless a fault came
abbrev pub UnlessFault : {T : Type 0} → Result T ReceiveFault → Type 0 → Type 0
UnlessFault r P = ends_in_fault r ≡ false → P
