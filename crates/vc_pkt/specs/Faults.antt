use Rattle.std.specs.Prelude.{◌≡◌, ℕ, List}
use Rattle.vc_pkt.specs.Line.{IsPart, IsBad, IsBadAt}
use Rattle.vc_pkt.specs.Held.{further}
use Rattle.vc_pkt.specs.declared.fault.PktFault.{PktFault}
use Rattle.vc_pkt.specs.declared.fault.PktFault.TheVariants.{BadLength, CutMessage}
use Rattle.vc_pkt.specs.declared.fault.PktError.{PktError}
use Rattle.vc_pkt.specs.declared.fault.PktError.TheVariants.{Memory, Refused}

-- why no line stands at the front of bytes, the first of which stands at the place
abbrev pub FaultAt : ℕ → List ℕ → PktFault → Type 0
FaultAt place bytes (BadLength at) = (at ≡ place) × IsBad bytes
FaultAt place bytes CutMessage = IsPart bytes
FaultAt place bytes _ = ⊥

abbrev pub LineFault : List ℕ → PktFault → Type 0
LineFault bytes fault = FaultAt 0 bytes fault

-- why bytes from a place of the stream on aren't taken
abbrev pub FeedFault : ℕ → List ℕ → PktError → Type 0
FeedFault from bytes Memory = Unit {0}
FeedFault from bytes (Refused (BadLength place)) = (n : ℕ) × IsBadAt bytes n × (place ≡ further from n)
FeedFault from bytes (Refused _) = ⊥
