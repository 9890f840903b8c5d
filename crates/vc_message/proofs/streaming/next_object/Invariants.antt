use Rattle.std.proofs.Common.{◌-◌, ◌^◌, ◌≤◌, ◌<◌, ℕ, List, Option}
use Rattle.vc_pkt.specs.ObjectStream.{between}
use Rattle.vc_pkt.specs.ObjectStreamView.{progress_of}
use Rattle.vc_message.specs.AnyMessage.{any_step, beginning}
use Rattle.vc_message.specs.Source.{TellsFailures}
use Rattle.vc_message.specs.Streaming.{Carrier, LeadsTo, state_at}
use Rattle.vc_message.proofs.streaming.next_object.Given as goal

abbrev pub invariant-lines : goal.invariant-lines
invariant-lines g l = record {
  leads : (before : Option (List ℕ)) (c : Carrier) → LeadsTo any_step beginning before (g.R.Source.remaining l.initial.reader) l.initial.taken.bytes l.initial.taken.lines (state_at c between)
      → LeadsTo any_step beginning before (g.R.Source.remaining l.reader) l.taken.bytes l.taken.lines (state_at c (progress_of l.progress));
  few : l.taken.lines < l.taken.bytes;
  from : l.initial.taken.bytes ≤ l.taken.bytes;
  failures : TellsFailures g.R.Source.failed g.R.Source.can_fail l.initial.reader l.reader ⊥;
}

abbrev pub decreases-lines : goal.decreases-lines
decreases-lines g l = 2 ^ 64 - l.taken.bytes
