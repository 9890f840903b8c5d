use Rattle.vc_pkt.specs.declared.fault.PktError.{PktError}
use Rattle.vc_pkt.specs.declared.fault.PktError.TheVariants as errors
use Rattle.vc_message.specs.declared.incoming_fault.IncomingFault.{IncomingFault}
use Rattle.vc_message.specs.declared.incoming_fault.IncomingFault.TheVariants as faults

-- a refusal or want of memory, as why no message came
abbrev pub of_pkt : PktError → IncomingFault
of_pkt errors.Memory = faults.Memory
of_pkt (errors.Refused fault) = faults.Unread fault
