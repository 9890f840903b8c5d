-- What a turn at a connection means for the connection, and for the server.
use Rattle.std.specs.Prelude.{ℕ, nat_le, Bool, true, false, Option, Some, None, ⊤, Result, Ok, Err}
use Rattle.vc_files.specs.declared.faults.Fault.{Fault}
use Rattle.vc_files.specs.declared.faults.Fault.TheVariants as fault
use Rattle.vc_message.specs.declared.incoming_fault.IncomingFault.{IncomingFault}
use Rattle.vc_message.specs.declared.incoming_fault.IncomingFault.TheVariants as incoming
use Rattle.vc_server.specs.declared.serve_fault.ServeFault.{ServeFault}
use Rattle.vc_server.specs.declared.serve_fault.ServeFault.TheVariants as serve_fault
use Rattle.vc_server.specs.declared.telling.Served.{Served}
use Rattle.vc_server.specs.declared.telling.Served.TheVariants.{Answered}

-- whether the connection goes on: behind a reply alone; or the fault that ends the server
abbrev pub going_on : Result Served ServeFault → Result Bool Fault
going_on (Ok Answered) = Ok true
going_on (Ok served) = Ok false
going_on (Err serve_fault.Memory) = Err fault.Memory
going_on (Err (serve_fault.Fault e)) = Err e
going_on (Err e) = Ok false

-- whether the node is asked, of what was taken from a connection: by a message, and by bytes that are none; or why nothing is known
abbrev pub has_come : Result (Option ⊤) IncomingFault → Result Bool ServeFault
has_come (Ok (Some u)) = Ok true
has_come (Ok None) = Ok false
has_come (Err (incoming.Unread e)) = Ok true
has_come (Err incoming.Failed) = Err serve_fault.ReadFailed
has_come (Err incoming.Memory) = Err serve_fault.Memory

-- as many connections were served as there are to be; where no number is told, there are always more
abbrev pub is_enough : ℕ → Option ℕ → Bool
is_enough served (Some count) = nat_le count served
is_enough served None = false
