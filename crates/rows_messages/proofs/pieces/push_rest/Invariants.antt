use Rattle.std.proofs.Common.{◌<◌}
use Rattle.rows_messages.proofs.pieces.push_rest.Given as goal

abbrev pub invariant-objects : goal.invariant-objects
invariant-objects g l = l.taken.lines < l.taken.bytes
