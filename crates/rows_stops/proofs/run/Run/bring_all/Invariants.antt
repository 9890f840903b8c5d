use Rattle.std.proofs.Common.{◌≡◌}
use Rattle.vc_events.specs.World.{clones_of}
use Rattle.rows_stops.proofs.run.Run.bring_all.Given as goal

abbrev pub invariant-loop-number : goal.invariant-loop-number
invariant-loop-number l = clones_of l.self.world ≡ l.self.clones
