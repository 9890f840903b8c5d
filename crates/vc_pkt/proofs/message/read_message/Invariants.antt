use Rattle.std.proofs.Common.{length}
use Rattle.vc_pkt.proofs.MessageLaws.{SoFar}
use Rattle.vc_pkt.proofs.message.read_message.Given as goal

abbrev pub invariant-lines : goal.invariant-lines
invariant-lines g l = SoFar g.R.MessageReader.step g.R.MessageReader.start l.bytes l.rest l.number (g.R.MessageReader.state_of l.reader)

abbrev pub decreases-lines : goal.decreases-lines
decreases-lines g l = length l.rest
