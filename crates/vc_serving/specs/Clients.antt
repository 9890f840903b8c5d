-- What happens between a server and its clients.
use Rattle.std.specs.Prelude.{◌≡◌, ◌++◌, ⊤, List, Option, Some, None, Result, Ok, Err}
use Rattle.vc_files.specs.declared.faults.Fault.{Fault}
use Rattle.vc_server.specs.declared.serve_fault.ServeFault.{ServeFault}
use Rattle.vc_server.specs.declared.telling.Served.{Served}

pub data Event (R W : Type 0) : Type 0 where
  -- this message was given, with what its answer is to be written to
  Gives : R → W → Event R W
  -- no more comes
  Ends : Event R W
  -- or nobody knows, for this fault
  Fails : Fault → Event R W
  -- The turn of the message ended so. This is left of it, and what was written. What was stored is kept, or lost by this fault.
  Takes : R → W → Result Served ServeFault → Result ⊤ Fault → Event R W
  -- the connection was closed
  Closes : Event R W

-- what comes next
abbrev pub given : {R W : Type 0} → Result (Option (R × W)) Fault → Event R W
given (Ok (Some message)) = Gives message.0 message.1
given (Ok None) = Ends
given (Err fault) = Fails fault

-- Where it is known what happened, this happened more. All lists have the newest first.
abbrev pub Hears : {A : Type 0} → Option (List A) → Option (List A) → List A → Type 0
Hears None new more = ⊤
Hears (Some events) None more = ⊥
Hears (Some events) (Some all) more = all ≡ more ++ events
