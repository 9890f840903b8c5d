-- What a fault of the shared node is of, and which are no refusals.
use Rattle.std.specs.Prelude.{Bool, true, false, not, Result, Ok, Err, IsErrAnd}
use Rattle.vc_pack.specs.declared.fault.AnswerFault.{AnswerFault}
use Rattle.vc_pack.specs.declared.fault.AnswerFault.TheVariants as answer
use Rattle.vc_files.specs.declared.faults.Fault.{Fault as FilesFault}
use Rattle.vc_files.specs.declared.faults.Fault.TheVariants.{Memory}
use Rattle.vc_message.specs.Machine.{pkt_number}
use Rattle.vc_model.specs.Node.{Answer}
use Rattle.vc_model.specs.Node.Answer.{Declined}
use Rattle.vc_local.specs.Machine.{fault_answer as node_answer}
use Rattle.vc_local.specs.NodeFault.{IsOfDevice as IsNodeDevice, is_fault as is_node_fault, of_source, refused_by_graph, refused_by_refs, refused_by_store, takes_down as node_takes_down}
use Rattle.vc_local.specs.declared.fault.NodeFault.TheVariants.{Missing, NotACommit, Store}
use Rattle.vc_pkt.specs.declared.fault.PktError.{PktError}
use Rattle.vc_pkt.specs.declared.fault.PktError.TheVariants as pkt
use Rattle.vc_rev.specs.Value.{refusal_number}
use Rattle.vc_rev.specs.declared.refusal.RevFault.{RevFault}
use Rattle.vc_rev.specs.declared.refusal.RevFault.TheVariants as revs
use Rattle.vc_session.specs.declared.fault.SessionFault.{SessionFault}
use Rattle.vc_session.specs.declared.fault.SessionFault.TheVariants as session
use Rattle.vc_object_map.specs.declared.faults.StoreFault.TheVariants as store
use Rattle.vc_shared.specs.declared.fault.SharedFault.{SharedFault}
use Rattle.vc_shared.specs.declared.fault.SharedFault.TheVariants.{Busy, NoSuchSlot, NoValue, Node, NotOurs, Unexpected, Unread}

-- want of memory, or a device that failed
abbrev pub of_device : FilesFault → SharedFault
of_device fault = Node (Store (store.Fault fault))

-- a fault of a push's step, as the node tells it
abbrev pub of_session : SessionFault → SharedFault
of_session (session.Store fault) = Node (refused_by_store fault)
of_session (session.Refs fault) = Node (refused_by_refs fault)
of_session (session.Fault fault) = of_device fault

-- bytes that are no message are told by their first fault
abbrev pub of_pkt : PktError → SharedFault
of_pkt (pkt.Refused fault) = Unread fault
of_pkt pkt.Memory = of_device Memory

-- a fault of an answer, as the node tells it
abbrev pub of_answer : AnswerFault → SharedFault
of_answer (answer.NotOurs id) = NotOurs id
of_answer (answer.Incomplete id) = Node (Missing id)
of_answer (answer.Refs fault) = Node (refused_by_refs fault)
of_answer (answer.Graph fault) = Node (refused_by_graph fault)
of_answer (answer.Fault fault) = of_device fault

-- why an expression has no value, as the node tells it
abbrev pub of_rev : RevFault → SharedFault
of_rev (revs.Refused refusal) = NoValue refusal
of_rev (revs.Missing id) = Node (Missing id)
of_rev (revs.NotACommit id) = Node (NotACommit id)
of_rev (revs.Source fault) = Node (of_source fault)

-- it is no refusal
abbrev pub is_fault : SharedFault → Bool
is_fault (Node fault) = is_node_fault fault
is_fault _ = false

-- a file of the node's own that is damaged or gone, or a fault
abbrev pub takes_down : SharedFault → Bool
takes_down (Node fault) = node_takes_down fault
takes_down _ = false

abbrev pub IsOfDevice : SharedFault → Type 0
IsOfDevice (Node fault) = IsNodeDevice fault
IsOfDevice _ = ⊥

-- the call tells a fault of the device
abbrev pub TellsDevice : {T : Type 0} → Result T SharedFault → Type 0
TellsDevice result = IsErrAnd result IsOfDevice

-- the machine's answer to a refused call, or to one that a fault ended
abbrev pub fault_answer : SharedFault → Answer
fault_answer (Unread fault) = Declined (pkt_number fault)
fault_answer (NotOurs id) = Declined 90
fault_answer Unexpected = Declined 91
fault_answer Busy = Declined 110
fault_answer NoSuchSlot = Declined 111
fault_answer (NoValue refusal) = Declined (refusal_number refusal)
fault_answer (Node fault) = node_answer fault

-- whether the node is up after a call
abbrev pub up_after : {T : Type 0} → Result T SharedFault → Bool
up_after (Ok x) = true
up_after (Err e) = not (takes_down e)
