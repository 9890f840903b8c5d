use Rattle.std.proofs.Common.{◌-◌, ◌^◌}
use Rattle.vc_message.proofs.IncomingLaws.{TakenSoFar}
use Rattle.vc_message.specs.Source.{TellsFailures}
use Rattle.vc_message.proofs.incoming.take_message.Given as goal

abbrev pub invariant-lines : goal.invariant-lines
invariant-lines g l = record {
  taken : TakenSoFar g.M.MessageReader.step g.met.M.MessageReader.line_faults g.M.MessageReader.start (g.R.Source.remaining l.fn.reader) (g.R.Source.remaining l.reader) l.place l.number (g.M.MessageReader.state_of l.state);
  failures : TellsFailures g.R.Source.failed g.R.Source.can_fail l.fn.reader l.reader ⊥;
}

abbrev pub decreases-lines : goal.decreases-lines
decreases-lines g l = 2 ^ 64 - l.place
