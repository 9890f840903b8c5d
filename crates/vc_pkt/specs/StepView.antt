use Rattle.std.specs.Prelude.{◌≡◌, Result, Ok, Err}
use Rattle.vc_pkt.specs.Message.{Stepped, onward, complete}
use Rattle.vc_pkt.specs.declared.fault.PktFault.{PktFault}
use Rattle.vc_pkt.specs.declared.fault.PktError.{PktError}
use Rattle.vc_pkt.specs.declared.fault.PktError.TheVariants.{Memory, Refused}
use Rattle.vc_pkt.specs.declared.message.Step.{Step}
use Rattle.vc_pkt.specs.declared.message.Step.TheVariants.{More, Done}

-- a step without where the reader and the message lie in memory
abbrev pub stepped : {R M S T : Type 0} → (R → S) → (M → T) → Step R M → Stepped S T
stepped state text (More reader) = onward (state reader)
stepped state text (Done message) = complete (text message)

-- what was returned, seen by view, is what the definition gives, unless memory ran out
abbrev pub Gives : {X Y : Type 0} → (X → Y) → Result X PktError → Result Y PktFault → Type 0
Gives view (Ok x) read = read ≡ Ok (view x)
Gives view (Err Memory) read = Unit {0}
Gives view (Err (Refused fault)) read = read ≡ Err fault
