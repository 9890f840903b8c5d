use Rattle.std.proofs.Common.{length, ◌-◌}
use Rattle.vc_message.proofs.IncomingReads.{FilledTo}
use Rattle.vc_message.specs.Source.{TellsFailures}
use Rattle.vc_message.proofs.incoming.fill.Given as goal

abbrev pub invariant-reads : goal.invariant-reads
invariant-reads g l = record {
  filled : FilledTo (g.R.Source.remaining l.fn.reader) (g.R.Source.remaining l.reader) l.fn.buffer l.buffer l.fn.at l.filled;
  failures : TellsFailures g.R.Source.failed g.R.Source.can_fail l.fn.reader l.reader ⊥;
}

abbrev pub decreases-reads : goal.decreases-reads
decreases-reads g l = length l.initial.buffer - l.filled
