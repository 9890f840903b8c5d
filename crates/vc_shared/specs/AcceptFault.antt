-- What a fault is of that ends the taking of a message from a reader, and which are no refusals.
use Rattle.std.specs.Prelude.{Bool, true, false, not, Result, Ok, Err, IsErrAnd}
use Rattle.vc_files.specs.declared.faults.Fault.TheVariants.{Memory}
use Rattle.vc_message.specs.declared.incoming_fault.IncomingFault.{IncomingFault}
use Rattle.vc_message.specs.declared.incoming_fault.IncomingFault.TheVariants as incoming
use Rattle.vc_shared.specs.Faults.{IsOfDevice as IsNodeDevice, is_fault as is_node_fault, of_device, takes_down as node_takes_down}
use Rattle.vc_shared.specs.declared.accept_fault.AcceptFault.{AcceptFault}
use Rattle.vc_shared.specs.declared.accept_fault.AcceptFault.TheVariants.{Node, ReadFailed}
use Rattle.vc_shared.specs.declared.fault.SharedFault.TheVariants.{Unread}

-- why no message came, as the node tells it
abbrev pub of_incoming : IncomingFault → AcceptFault
of_incoming incoming.Memory = Node (of_device Memory)
of_incoming incoming.Failed = ReadFailed
of_incoming (incoming.Unread fault) = Node (Unread fault)

-- it is no refusal
abbrev pub is_fault : AcceptFault → Bool
is_fault ReadFailed = false
is_fault (Node fault) = is_node_fault fault

-- a file of the node's own that is damaged or gone, or a fault
abbrev pub takes_down : AcceptFault → Bool
takes_down ReadFailed = false
takes_down (Node fault) = node_takes_down fault

abbrev pub IsOfDevice : AcceptFault → Type 0
IsOfDevice ReadFailed = ⊥
IsOfDevice (Node fault) = IsNodeDevice fault

-- the call tells a fault of the device
abbrev pub TellsDevice : {T : Type 0} → Result T AcceptFault → Type 0
TellsDevice result = IsErrAnd result IsOfDevice

-- whether the node is up after a call
abbrev pub up_after : {T : Type 0} → Result T AcceptFault → Bool
up_after (Ok x) = true
up_after (Err e) = not (takes_down e)

-- whether the call ended in a fault
abbrev pub ends_in_fault : {T : Type 0} → Result T AcceptFault → Bool
ends_in_fault (Ok x) = false
ends_in_fault (Err e) = is_fault e
