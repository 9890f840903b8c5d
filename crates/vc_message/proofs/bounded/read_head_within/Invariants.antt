use Rattle.std.proofs.Common.{◌-◌, ◌^◌, ◌≤◌}
use Rattle.vc_message.specs.AnyMessage.{any_step, beginning}
use Rattle.vc_message.specs.AnyView.{reader_state}
use Rattle.vc_message.specs.Source.{TellsFailures}
use Rattle.vc_message.specs.Streaming.{LeadsTo}
use Rattle.vc_message.proofs.bounded.read_head_within.Given as goal

abbrev pub invariant-lines : goal.invariant-lines
invariant-lines g l = record {
  leads : LeadsTo any_step beginning (g.R.Source.remaining l.initial.reader) (g.R.Source.remaining l.reader) l.bytes l.lines (reader_state l.state);
  few : l.lines ≤ l.bytes;
  failures : TellsFailures g.R.Source.failed g.R.Source.can_fail l.initial.reader l.reader ⊥;
}

abbrev pub decreases-lines : goal.decreases-lines
decreases-lines g l = 2 ^ 64 - l.bytes
