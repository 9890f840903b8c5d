-- What a refusal is printed as: its number and its name.
use Rattle.std.specs.Prelude.{ℕ, List, codes}
use Rattle.vc_message.specs.declared.incoming_fault.IncomingFault.{IncomingFault}
use Rattle.vc_message.specs.declared.incoming_fault.IncomingFault.TheVariants.{Failed, Memory, Unread}
use Rattle.vc_pkt.specs.Printed.{pkt_fault_text}

abbrev pub incoming_fault_text : IncomingFault → List ℕ
incoming_fault_text Memory = codes "memory"
incoming_fault_text Failed = codes "115 ReadFailed"
incoming_fault_text (Unread fault) = pkt_fault_text fault
