-- What ended an exchange over a socket.
use Rattle.vc_files.specs.declared.faults.Fault.TheVariants as fault
use Rattle.vc_message.specs.declared.incoming_fault.IncomingFault.{IncomingFault}
use Rattle.vc_message.specs.declared.incoming_fault.IncomingFault.TheVariants as incoming
use Rattle.vc_node.specs.declared.clone_fault.CloneFault.TheVariants.{Unexpected}
use Rattle.vc_remote.specs.declared.remote_fault.RemoteFault.{RemoteFault}
use Rattle.vc_remote.specs.declared.remote_fault.RemoteFault.TheVariants.{Clone, Fault, ReadFailed, Unread}
use Rattle.vc_world.specs.declared.ending.ExchangeEnd.{ExchangeEnd}
use Rattle.vc_world.specs.declared.ending.ExchangeEnd.TheVariants as ends

-- no message came
abbrev pub of_incoming : IncomingFault → RemoteFault
of_incoming incoming.Memory = Fault fault.Memory
of_incoming incoming.Failed = ReadFailed
of_incoming (incoming.Unread e) = Unread e

-- the clone refused, or the server, or what came is no answer to what was sent
abbrev pub of_end : ExchangeEnd RemoteFault → RemoteFault
of_end (ends.Clone e) = Clone e
of_end (ends.Shared e) = e
of_end ends.Stray = Clone Unexpected
of_end ends.Memory = Fault fault.Memory
