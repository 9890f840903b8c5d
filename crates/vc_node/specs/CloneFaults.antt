-- What a fault of an exchange is of, as a clone tells it, and which are no refusals.
use Rattle.std.specs.Prelude.{Bool, true, false, not, Result, Ok, Err, IsErrAnd}
use Rattle.vc_tracking.specs.declared.fault.ExchangeFault.{ExchangeFault}
use Rattle.vc_tracking.specs.declared.fault.ExchangeFault.TheVariants as exchange
use Rattle.vc_sending.specs.declared.send_fault.SendFault.{SendFault}
use Rattle.vc_sending.specs.declared.send_fault.SendFault.TheVariants as send
use Rattle.vc_files.specs.declared.faults.Fault.{Fault as FilesFault}
use Rattle.vc_files.specs.declared.faults.Fault.TheVariants.{Memory}
use Rattle.vc_message.specs.Machine.{pkt_number}
use Rattle.vc_model.specs.Node.{Answer}
use Rattle.vc_model.specs.Node.Answer.{Declined}
use Rattle.vc_pkt.specs.declared.fault.PktError.{PktError}
use Rattle.vc_pkt.specs.declared.fault.PktError.TheVariants as pkt
use Rattle.vc_rev.specs.Value.{refusal_number}
use Rattle.vc_rev.specs.declared.refusal.RevFault.{RevFault}
use Rattle.vc_rev.specs.declared.refusal.RevFault.TheVariants as revs
use Rattle.vc_object_map.specs.declared.faults.StoreFault.TheVariants as store
use Rattle.vc_local.specs.Machine.{fault_answer as node_answer}
use Rattle.vc_local.specs.NodeFault.{IsOfDevice as IsNodeDevice, is_fault as is_node_fault, of_source, refused_by_graph, refused_by_refs, refused_by_store, takes_down as node_takes_down}
use Rattle.vc_node.specs.declared.clone_fault.CloneFault.{CloneFault}
use Rattle.vc_node.specs.declared.clone_fault.CloneFault.TheVariants.{Incomplete, NoValue, Node, TooMany, Unexpected, Unread}
use Rattle.vc_local.specs.declared.fault.NodeFault.TheVariants.{Missing, NotACommit, Store}

-- want of memory, or a device that failed
abbrev pub of_device : FilesFault → CloneFault
of_device fault = Node (Store (store.Fault fault))

-- bytes that are no message are told by their first fault
abbrev pub of_pkt : PktError → CloneFault
of_pkt (pkt.Refused fault) = Unread fault
of_pkt pkt.Memory = of_device Memory

-- a fault of a message that was taken, as the clone tells it
abbrev pub of_exchange : ExchangeFault → CloneFault
of_exchange (exchange.Store fault) = Node (refused_by_store fault)
of_exchange (exchange.Refs fault) = Node (refused_by_refs fault)
of_exchange (exchange.Incomplete id) = Incomplete id
of_exchange (exchange.Fault fault) = of_device fault

-- why a push is not sent
abbrev pub of_send : SendFault → CloneFault
of_send send.TooMany = TooMany
of_send (send.Missing id) = Node (Missing id)
of_send (send.Refs fault) = Node (refused_by_refs fault)
of_send (send.Graph fault) = Node (refused_by_graph fault)
of_send (send.Fault fault) = of_device fault

-- why an expression has no value
abbrev pub of_rev : RevFault → CloneFault
of_rev (revs.Refused refusal) = NoValue refusal
of_rev (revs.Missing id) = Node (Missing id)
of_rev (revs.NotACommit id) = Node (NotACommit id)
of_rev (revs.Source fault) = Node (of_source fault)

-- it is no refusal
abbrev pub is_fault : CloneFault → Bool
is_fault (Node fault) = is_node_fault fault
is_fault _ = false

-- a file of the clone's own that is damaged or gone, or a fault
abbrev pub takes_down : CloneFault → Bool
takes_down (Node fault) = node_takes_down fault
takes_down _ = false

abbrev pub IsOfDevice : CloneFault → Type 0
IsOfDevice (Node fault) = IsNodeDevice fault
IsOfDevice _ = ⊥

-- the call tells a fault of the device
abbrev pub TellsDevice : {T : Type 0} → Result T CloneFault → Type 0
TellsDevice result = IsErrAnd result IsOfDevice

-- the machine's answer to a refused call, or to one that a fault ended
abbrev pub fault_answer : CloneFault → Answer
fault_answer (Unread fault) = Declined (pkt_number fault)
fault_answer Unexpected = Declined 91
fault_answer TooMany = Declined 84
fault_answer (Incomplete id) = Declined 92
fault_answer (NoValue refusal) = Declined (refusal_number refusal)
fault_answer (Node fault) = node_answer fault

-- whether the node is up after a call
abbrev pub up_after : {T : Type 0} → Result T CloneFault → Bool
up_after (Ok x) = true
up_after (Err e) = not (takes_down e)
