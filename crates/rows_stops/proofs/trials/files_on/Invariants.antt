use Rattle.std.proofs.Common.{◌≡◌, length}
use Rattle.rows_stops.proofs.trials.files_on.Given as goal

abbrev pub invariant-loop-disk : goal.invariant-loop-disk
invariant-loop-disk l = length l.files.items ≡ l.disk-index
