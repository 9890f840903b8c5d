-- A message that may have so much before its objects: what was taken of it, and what is told of one that has more.
use Rattle.std.proofs.Common.{◌≡◌, ◌⊎◌, inl, inr, ℕ, ◌+◌, ◌≤◌, ◌<◌, List, ◌++◌, length, Option, refl, ap, ◌∙◌, arith, length-append}
use Rattle.vc_pkt.specs.Line.{LineText, IsLine, flush, text, max_data}
use Rattle.vc_pkt.specs.declared.fault.PktFault.{PktFault}
use Rattle.vc_message.specs.AnyMessage.{AnyState, any_step, beginning}
use Rattle.vc_message.specs.Bounded.{FailsWithin, IsBeyond, PassesBound}
use Rattle.vc_message.specs.Streaming.{LeadsTo, TakesLine}
use Rattle.vc_message.specs.declared.bounded.Bound.{Bound}
use Rattle.vc_message.specs.declared.incoming_fault.IncomingFault.TheVariants.{Unread}

-- a line is no longer than this
line_most : (line : LineText) (spelled : List ℕ) → IsLine line spelled → length spelled ≤ max_data + 4
line_most flush spelled h = omega (arith, h.four)
line_most (text body) spelled (digits, size, small, e) = let four = size.four in let len = ap length e ∙ length-append digits body in omega (arith, four, len, small)

-- before a line nothing was beyond the bound
pub within : (bound : Bound) (old new : Option (List ℕ)) (place end number : ℕ) (spelled : List ℕ) → TakesLine old new place end spelled → (place < bound.bytes) × (number < bound.lines)
    → (number + 1 ≤ bound.lines) × ((before : ℕ) × (before < bound.bytes) × (end ≤ before + (max_data + 4)))
within bound old new place end number spelled took less =
    let most = line_most took.line spelled took.is in
    let behind = took.behind in
    let more = less.1 in (
      omega (arith, more),
      (place, less.0, omega (arith, most, behind)),
    )

-- what is refused was begun
pub beyond : (bound : Bound) (old now : Option (List ℕ)) (bytes lines : ℕ) (s : AnyState) (fault : PktFault) → LeadsTo any_step beginning old now bytes lines s → IsBeyond bound bytes lines fault → FailsWithin bound old now (Unread fault)
beyond bound old now bytes lines s fault leads past = inr (fault, refl, record { bytes = bytes; lines = lines; state = s; leads = leads; beyond = past })
