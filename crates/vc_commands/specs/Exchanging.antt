-- What `fetch` and `push` print of an exchange.
use Rattle.std.specs.Io.KnownBytes.{Appends, Keeps}
use Rattle.std.specs.List.{flat_map, list_all}
use Rattle.std.specs.Prelude.{◌≡◌, ◌⊎◌, ℕ, Bool, List, [], ◌∷◌, ◌++◌, Option, Result, Ok, Err, codes, decimal, map}
use Rattle.vc_cli.specs.Failure.{IsFault}
use Rattle.vc_cli.specs.declared.failure.Failure.{Failure}
use Rattle.vc_push.specs.ReportView.{told_of}
use Rattle.vc_push.specs.declared.report.Report.{Report}
use Rattle.vc_remote.specs.Ends.{of_end}
use Rattle.vc_remote.specs.declared.remote_fault.RemoteFault.{RemoteFault}
use Rattle.vc_transport.specs.Printed.{is_accepted, told_line}
use Rattle.vc_world.specs.declared.ending.ExchangeEnd.{ExchangeEnd}
use Rattle.vc_world.specs.declared.fetching.Fetched.{Fetched}
use Rattle.vc_commands.specs.RemoteFailure.{of_remote}

-- how many refs moved
abbrev pub moved_line : ℕ → List ℕ
moved_line n = codes "moved " ++ (decimal n ++ 10 ∷ [])

-- why an exchange is not told as done: what ended it, or a fault
abbrev pub IsOfEnd : ExchangeEnd RemoteFault → Failure → Type 0
IsOfEnd end e = IsFault e ⊎ (e ≡ of_remote (of_end end))

-- What is told of a fetch that ended so: how many refs moved in it, or what ended it.
abbrev pub TellsFetch : {T : Type 0} → Result Fetched (ExchangeEnd RemoteFault) → Option (List ℕ) → Option (List ℕ) → Result T Failure → Type 0
TellsFetch (Ok fetched) before after (Ok done) = Appends before after (moved_line fetched.moved)
TellsFetch (Ok fetched) before after (Err e) = IsFault e
TellsFetch (Err end) before after (Ok done) = ⊥
TellsFetch (Err end) before after (Err e) = IsOfEnd end e × Keeps before after

-- What is told of a push that ended so: the line of each item, and whether all were done; or what ended it.
abbrev pub TellsPush : Result Report (ExchangeEnd RemoteFault) → Option (List ℕ) → Option (List ℕ) → Result Bool Failure → Type 0
TellsPush (Ok report) before after (Ok done) = Appends before after (flat_map told_line (map told_of report.told.items)) × (done ≡ list_all is_accepted report.told.items)
TellsPush (Ok report) before after (Err e) = IsFault e
TellsPush (Err end) before after (Ok done) = ⊥
TellsPush (Err end) before after (Err e) = IsOfEnd end e × Keeps before after

-- it ended in one way, of which this is told and all that is claimed holds
abbrev pub EndsTold : {E R : Type 0} → (E → R → Type 0) → (E → Type 0) → R → Type 0
EndsTold {E} Tells Led result = (end : E) × Tells end result × Led end
